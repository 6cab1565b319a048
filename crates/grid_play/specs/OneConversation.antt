-- That the words and the bytes fix the conversation.
use Rattle.std.specs.Prelude.{◌≡◌, ℕ, ◌<◌, ◌^◌, false, List, length, Ok}
use Rattle.grid_types.specs.declared.config.HubConfig.{HubConfig}
use Rattle.node_client.specs.Steps.{Step}
use Rattle.conn_script.specs.declared.wants.Served.{Served}
use Rattle.play_words.specs.declared.play.PlayNode.{PlayNode}
use Rattle.grid_play.specs.Played.{Played}

-- two conversations that came to an end are one, and lead to one history, the same nodes and one moment
pub record SameConversation (c : HubConfig) (nodes : List PlayNode) (bytes : List ℕ) (served last : Served) (steps others : List Step) (written answered : List ℕ)
    (p : Played c nodes (Ok served) bytes steps written) (q : Played c nodes (Ok last) bytes others answered) : Type 0 where
  pub same_end : served ≡ last
  pub same_steps : steps ≡ others
  pub same_written : written ≡ answered
  pub same_history : p.history ≡ q.history
  pub same_nodes : p.reached ≡ q.reached
  pub same_moment : p.moment ≡ q.moment

-- A play has at most one conversation about some bytes that came to an end and in which no step was out of memory.
abbrev pub OneConversation : Type 0
OneConversation =
    (c : HubConfig) (nodes : List PlayNode) (bytes : List ℕ) (served last : Served) (steps others : List Step) (written answered : List ℕ)
    (p : Played c nodes (Ok served) bytes steps written) (q : Played c nodes (Ok last) bytes others answered) →
    length nodes < 2 ^ 16 → served.short ≡ false → last.short ≡ false → SameConversation c nodes bytes served last steps others written answered p q

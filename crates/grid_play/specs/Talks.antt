-- One connection from anywhere: by a hub, nodes in memory and a clock that were left so by what came before.
use Rattle.std.specs.Prelude.{◌≡◌, ◌≢◌, ℕ, ◌+◌, ◌<◌, ◌≤◌, ◌^◌, false, List, [], ◌∷◌, ◌++◌, length, Ok, Result, Some}
use Rattle.grid_types.specs.declared.config.HubConfig.{HubConfig}
use Rattle.grid_types.specs.Config.{IsValid}
use Rattle.grid_types.specs.declared.entry.Entry.{Entry}
use Rattle.node_client.specs.Runs.{Exchanges, Still}
use Rattle.node_client.specs.Steps.{Step}
use Rattle.conn_script.specs.declared.wants.ConnFault.{ConnFault}
use Rattle.conn_script.specs.declared.wants.Served.{Served}
use Rattle.conn_script.specs.declared.wants.TheConstants.{LIMIT}
use Rattle.conn_script.specs.declared.wants.End.TheVariants as ends
use Rattle.hub_conn.specs.Conversation.{Finished, IsOpen}
use Rattle.local_driver.specs.World.{Answered}
use Rattle.loop_node.specs.Links.{NodesGive}
use Rattle.loop_node.specs.Sessions.{Node}
use Rattle.play_words.specs.declared.play.PlayNode.{PlayNode}
use Rattle.play_words.specs.Words.{Plays, SaysNode}
use Rattle.grid_play.specs.Crew.{AllFit, IsFit, first_crew}

-- what a hub of one thread, its nodes in memory and its clock have come to
pub record Standing : Type 0 where
  pub history : List Entry
  pub nodes : List Node
  pub moment : ℕ

abbrev pub standing : List Entry → List Node → ℕ → Standing
standing history nodes moment = record { history = history; nodes = nodes; moment = moment }

-- the nodes have ascending numbers from this one on, each one that is written
abbrev pub AscendFrom : ℕ → List Node → Type 0
AscendFrom k [] = Unit {0}
AscendFrom k (n ∷ ns) = (k ≤ n.number) × (n.number < 2 ^ 64) × AscendFrom (n.number + 1) ns

-- The bytes, the steps and the written bytes are a conversation that ended so. It leads on from the one standing to the other: the
-- hub's history, the nodes by their rule, and the clock that stands still but for pauses.
pub record Talks (c : HubConfig) (own : List ℕ) (old : Standing) (ended : Result Served ConnFault) (bytes : List ℕ) (steps : List Step) (written : List ℕ) (new : Standing) : Type 0 where
  pub finished : Finished (Some own) ended bytes steps written
  pub within : length bytes ≤ LIMIT
  pub answered : Answered c old.history steps new.history
  pub asked : Exchanges NodesGive old.nodes steps new.nodes
  pub still : Still old.moment steps new.moment

-- two conversations are one
pub record SameTalks (served last : Served) (steps others : List Step) (written answered : List ℕ) (y z : Standing) : Type 0 where
  pub same_end : served ≡ last
  pub same_steps : steps ≡ others
  pub same_written : written ≡ answered
  pub same_standing : y ≡ z

-- From one standing the same bytes have one conversation in which no step was out of memory, and it leads to one standing.
abbrev pub OneTalk : Type 0
OneTalk =
    (c : HubConfig) (own : List ℕ) (s y z : Standing) (bytes : List ℕ) (served last : Served) (steps others : List Step) (written answered : List ℕ) →
    AscendFrom 1 s.nodes → Talks c own s (Ok served) bytes steps written y → Talks c own s (Ok last) bytes others answered z →
    served.short ≡ false → last.short ≡ false → SameTalks served last steps others written answered y z

-- the nodes' numbers ascend after it too
abbrev pub TalksKeepNumbers : Type 0
TalksKeepNumbers =
    (c : HubConfig) (own : List ℕ) (s y : Standing) (bytes : List ℕ) (ended : Result Served ConnFault) (steps : List Step) (written : List ℕ) →
    AscendFrom 1 s.nodes → Talks c own s ended bytes steps written y → AscendFrom 1 y.nodes

-- A conversation that ended before its input did is also the one of longer bytes, as long as these are within the limit.
abbrev pub TalksStand : Type 0
TalksStand =
    (c : HubConfig) (own : List ℕ) (s y : Standing) (bytes more : List ℕ) (served : Served) (steps : List Step) (written : List ℕ) →
    Talks c own s (Ok served) bytes steps written y → (IsOpen served.end → more ≡ []) → served.end ≢ ends.HubSpent →
    length (bytes ++ more) < LIMIT → Talks c own s (Ok served) (bytes ++ more) steps written y

-- the numbers of nodes that have just registered ascend
abbrev pub FirstCrewsAscend : Type 0
FirstCrewsAscend = (c : HubConfig) (nodes : List PlayNode) → length nodes < 2 ^ 16 → AscendFrom 1 (first_crew c nodes).nodes

-- a node that two words say has as many slots as a node may have, and short texts
abbrev pub SaidNodesFit : Type 0
SaidNodesFit = (word slots : List ℕ) (node : PlayNode) → SaysNode word slots node → IsFit node

-- so are those of a play, and they are few
abbrev pub SaidCrewsFit : Type 0
SaidCrewsFit = (words : List (List ℕ)) (c : HubConfig) (nodes : List PlayNode) → Plays words c nodes → AllFit nodes × (length nodes < 2 ^ 16)

-- and the hub that they say can be made
abbrev pub SaidHubsAreValid : Type 0
SaidHubsAreValid = (words : List (List ℕ)) (c : HubConfig) (nodes : List PlayNode) → Plays words c nodes → IsValid c

-- A connection that was served by a hub of one thread, by nodes in memory and over a clock in memory, as one conversation; and what
-- the status of its end tells.
use Rattle.std.specs.Prelude.{◌≡◌, ◌⊎◌, ℕ, ◌<◌, true, List, Result}
use Rattle.grid_types.specs.declared.config.HubConfig.{HubConfig}
use Rattle.grid_types.specs.Legal.{legal}
use Rattle.grid_outside.specs.Counts.{Rose}
use Rattle.grid_outside.specs.Memory.{ClockGives, clock_at, clock_view}
use Rattle.grid_outside.specs.Told.{LinkView}
use Rattle.grid_outside.specs.declared.exchange.Ask.{Ask}
use Rattle.grid_outside.specs.declared.memory.MemClock.{MemClock}
use Rattle.grid_outside.specs.Exchanges.{Came}
use Rattle.hub_core.specs.HubView.{HubView, past}
use Rattle.hub_conn.specs.Talk.{result_cause}
use Rattle.hub_links.specs.Links.{Moved, RoseFor}
use Rattle.node_client.specs.Steps.{Step}
use Rattle.conn_script.specs.declared.wants.ConnFault.{ConnFault}
use Rattle.conn_script.specs.declared.wants.Served.{Served}
use Rattle.local_driver.specs.Served.{ServedLocally, outside_of}
use Rattle.local_driver.specs.World.{world_of}
use Rattle.loop_node.specs.declared.links.LoopNodes.{LoopNodes}
use Rattle.loop_node.specs.LinkedNodes.{nodes_reached}
use Rattle.loop_node.specs.Links.{NodesGive}
use Rattle.grid_play.specs.Ran.{IsUnspent, status_of}
use Rattle.grid_play.specs.Talks.{Standing, Talks, standing}

-- the rule of nodes behind their link
abbrev pub reached_give : LoopNodes → List ℕ → Ask → Came → LoopNodes → Type 0
reached_give old address ask came new = NodesGive (nodes_reached old) address ask came (nodes_reached new)

-- where a hub, its nodes and its clock stand
abbrev pub standing_at : HubView → LoopNodes → MemClock → Standing
standing_at hub nodes clock = standing (past hub) (nodes_reached nodes) (clock_at clock)

-- What was read, done and written is one conversation that ended so, and what its end blames has happened on the link.
pub record ServedTalk (c : HubConfig) (own : List ℕ) (old : Standing) (ended : Result Served ConnFault) (before after : LinkView) (new : Standing) : Type 0 where
  pub bytes : List ℕ
  pub steps : List Step
  pub written : List ℕ
  pub talks : Talks c own old ended bytes steps written new
  pub is_legal : legal c new.history ≡ true
  pub moved : Moved before bytes written after
  pub blames : RoseFor (result_cause ended) before after
  pub unspent : IsUnspent ended

-- what was served is such a conversation
abbrev pub ServedIsATalk : Type 0
ServedIsATalk =
    (own : List ℕ) (ended : Result Served ConnFault) (h k : HubView) (n m : LoopNodes) (t u : MemClock) (before after : LinkView) →
    ServedLocally reached_give ClockGives own (outside_of (world_of h n t (clock_view t)) before) ended (outside_of (world_of k m u (clock_view u)) after) →
    ServedTalk h.config own (standing_at h n t) ended before after (standing_at k m u)

-- A failed read or write that the status tells has happened, and no other status than these comes.
pub record TellsStatus (status : ℕ) (before after : LinkView) : Type 0 where
  pub read : status ≡ 3 → Rose before.read_faults after.read_faults
  pub write : status ≡ 4 → Rose before.write_faults after.write_faults
  pub few : (status ≡ 0) ⊎ ((2 < status) × (status < 7))

abbrev pub StatusesTell : Type 0
StatusesTell = (ended : Result Served ConnFault) (before after : LinkView) → RoseFor (result_cause ended) before after → TellsStatus (status_of ended) before after

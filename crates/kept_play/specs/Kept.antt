-- What a play over a keeper promises.
use Rattle.std.specs.Prelude.{◌≡◌, ◌⊎◌, ℕ, ◌<◌, List, Option, IfSome, Result, Ok, Err}
use Rattle.grid_types.specs.declared.config.HubConfig.{HubConfig}
use Rattle.grid_types.specs.declared.entry.Entry.{Entry}
use Rattle.grid_types.specs.History.{BeginsWith}
use Rattle.grid_outside.specs.Counts.{Rose}
use Rattle.grid_outside.specs.Told.{LinkView}
use Rattle.hub_core.specs.HubView.{past}
use Rattle.conn_script.specs.declared.wants.ConnFault.{ConnFault}
use Rattle.conn_script.specs.declared.wants.Served.{Served}
use Rattle.loop_node.specs.declared.links.LoopNodes.{LoopNodes}
use Rattle.loop_node.specs.LinkedNodes.{nodes_reached}
use Rattle.play_words.specs.declared.play.PlayNode.{PlayNode}
use Rattle.grid_play.specs.Crew.{first_crew}
use Rattle.grid_play.specs.Ran.{status_of as conn_status}
use Rattle.grid_play.specs.ServedTalks.{ServedTalk, reached_give}
use Rattle.grid_play.specs.Talks.{Standing, standing}
use Rattle.row_keeper.specs.Disks.{Disk}
use Rattle.grid_keeper.specs.Keeping.{AlongTold, WentAlong}
use Rattle.grid_keeper.specs.Opening.{IsBadAt}
use Rattle.grid_keeper.specs.Replays.{IsImage}
use Rattle.grid_keeper.specs.Runs.{Broke, Runs}
use Rattle.grid_keeper.specs.Settling.{NoTicket, NoneHeld, QuitsOn}
use Rattle.grid_keeper.specs.declared.kept_hub.KeptHub.{KeptHub}
use Rattle.grid_keeper.specs.declared.kept_hub.KeptFault.{KeptFault}
use Rattle.grid_keeper.specs.declared.kept_hub.KeptFault.TheVariants as faults
use Rattle.grid_keeper.specs.declared.opening.OpenFault.{OpenFault}
use Rattle.grid_keeper.specs.declared.opening.OpenFault.TheVariants as opens
use Rattle.kept_play.specs.declared.serving.KeptEnd.{KeptEnd}
use Rattle.kept_play.specs.declared.serving.KeptEnd.TheVariants as ends
use Rattle.kept_play.specs.Placing.{Placed}

-- ---- statuses

abbrev pub fault_status : KeptFault → ℕ
fault_status faults.Keeper = 8
fault_status faults.Memory = 5

abbrev pub open_status : OpenFault → ℕ
open_status opens.Read = 8
open_status (opens.BadRow i) = 9
open_status opens.Memory = 5

abbrev pub end_status : Result Served KeptEnd → ℕ
end_status (Ok served) = conn_status (Ok served)
end_status (Err (ends.Conn fault)) = conn_status (Err fault)
end_status (Err ends.Keeper) = 8
end_status (Err ends.Memory) = 5

-- memory was wanted, or the keeper failed
abbrev pub IsStop : ℕ → Type 0
IsStop status = (status ≡ 5) ⊎ (status ≡ 8)

-- a failure that the status tells has happened, and no other status than these comes
pub record TellsKept (status faults faults' : ℕ) (before after : LinkView) : Type 0 where
  pub read : status ≡ 3 → Rose before.read_faults after.read_faults
  pub write : status ≡ 4 → Rose before.write_faults after.write_faults
  pub keeper : status ≡ 8 → Rose faults faults'
  pub few : (status ≡ 0) ⊎ (((2 < status) × (status < 7)) ⊎ ((7 < status) × (status < 10)))

-- ---- a play

-- a connection was served to its end, which tells the status
pub record ServedTo (c : HubConfig) (own : List ℕ) (old : Standing) (status : ℕ) (before after : LinkView) (new : Standing) : Type 0 where
  pub ended : Result Served ConnFault
  pub talk : ServedTalk c own old ended before after new
  pub status_is : status ≡ conn_status ended

-- so from where the hub and its nodes stood, and what is kept now are the rows of the whole journal
pub record ServedOn (c : HubConfig) (own : List ℕ) (H : List Entry) (nodes : LoopNodes) (status : ℕ) (before after : LinkView) (last : List Entry) (now : Option Disk) : Type 0 where
  pub new : Standing
  pub served : ServedTo c own (standing H (nodes_reached nodes) 0) status before after new
  pub last_is : last ≡ new.history
  pub kept : IfSome now (λ d. IsImage c d.rows last)

-- or not to its end
abbrev pub ServedOrStops : HubConfig → List ℕ → List Entry → LoopNodes → ℕ → LinkView → LinkView → List Entry → Option Disk → Type 0
ServedOrStops c own H nodes status before after last now = ServedOn c own H nodes status before after last now ⊎ IsStop status

-- From the history H on: the open tokens were spent, so that nothing is held and no ticket is open, and the nodes were asked nothing
-- but to end sessions; then the nodes of the play registered where no registered node has their name; and then the connection was
-- served.
pub record PlaysOn (c : HubConfig) (nodes : List PlayNode) (H : List Entry) (fresh : LoopNodes) (status : ℕ) (before after : LinkView) (last : List Entry) (now : Option Disk) : Type 0 where
  pub settled : List Entry
  pub begins : BeginsWith settled H
  pub none_held : NoneHeld settled
  pub no_ticket : NoTicket settled
  pub own : List ℕ
  pub opened : List Entry
  pub placed : Placed c 1 nodes settled own opened
  pub reached : LoopNodes
  pub asks : QuitsOn reached_give fresh reached
  pub serves : ServedOrStops c own opened reached status before after last now

-- or it came to no connection: nothing was read or written
abbrev pub PlaysOrStops : HubConfig → List PlayNode → List Entry → LoopNodes → ℕ → LinkView → LinkView → List Entry → Option Disk → Type 0
PlaysOrStops c nodes H fresh status before after last now = PlaysOn c nodes H fresh status before after last now ⊎ (IsStop status × (after ≡ before))

-- some row can't be made again
abbrev pub IsBad : HubConfig → Option Disk → Type 0
IsBad c disk = IfSome disk (λ d. (i : ℕ) × IsBadAt c d.rows i)

-- Or no hub was opened: nothing was read, written or kept.
pub record NotOpened (c : HubConfig) (status : ℕ) (before after : LinkView) (old new : Option Disk) : Type 0 where
  pub why : IsStop status ⊎ ((status ≡ 9) × IsBad c old)
  pub same_link : after ≡ before
  pub same_disk : new ≡ old

module _ {K : Type 0} (disk : K → Option Disk) where
  -- each call was kept before its answer was handed on, but for the last one where that met a fault
  abbrev pub RunsOrBreaks : KeptHub K → KeptHub K → Type 0
  RunsOrBreaks old new = Runs disk old new ⊎ Broke disk old new

  -- so behind the spending of the open tokens
  pub record RunsSettled (old new : KeptHub K) : Type 0 where
    pub settled : KeptHub K
    pub went : WentAlong disk old settled
    pub runs : RunsOrBreaks settled new

  -- The rows stood for a history, from which the play went on with the nodes of the words, which had begun anew. At each moment a
  -- crash leaves the rows of a front of the hub's journal, with the entries of each call whose answer was handed on.
  pub record KeptPlay (c : HubConfig) (nodes : List PlayNode) (status : ℕ) (before after : LinkView) (old new : K) : Type 0 where
    pub first : KeptHub K
    pub last : KeptHub K
    pub config : first.hub.config ≡ c
    pub rows : IfSome (disk old) (λ d. IsImage c d.rows (past first.hub))
    pub fresh : LoopNodes
    pub fresh_are : nodes_reached fresh ≡ (first_crew c nodes).nodes
    pub plays : PlaysOrStops c nodes (past first.hub) fresh status before after (past last.hub) (disk new)
    pub along : AlongTold c (past first.hub) (past last.hub) (disk old) (disk new)
    pub runs : RunsSettled first last
    pub first_kept : disk first.keeper ≡ disk old
    pub last_kept : disk last.keeper ≡ disk new

  abbrev pub KeptOver : HubConfig → List PlayNode → ℕ → LinkView → LinkView → K → K → Type 0
  KeptOver c nodes status before after old new = KeptPlay c nodes status before after old new ⊎ NotOpened c status before after (disk old) (disk new)

-- What a connection that was served to its end says of all outside.
use Rattle.std.specs.Prelude.{◌≡◌, ◌⊎◌, ℕ, ◌+◌, ◌≤◌, true, List, length, None, Result, Ok, Err}
use mathlib.Core.List.{IsPrefix}
use Rattle.grid_types.specs.declared.config.HubConfig.{HubConfig}
use Rattle.grid_types.specs.Legal.{legal}
use Rattle.grid_types.specs.Safe.{IsSafe}
use Rattle.grid_outside.specs.Told.{Tick}
use Rattle.grid_outside.specs.declared.exchange.Ask.{Ask}
use Rattle.grid_outside.specs.Exchanges.{Came}
use Rattle.turn_cell.specs.Rule.{entries_of}
use Rattle.hub_cell.specs.declared.hub.SharedHub.{SharedHub}
use Rattle.hub_cell.specs.Passes.{config_of}
use Rattle.hub_cell.specs.Shared.{past}
use Rattle.node_client.specs.Steps.{Step}
use Rattle.conn_script.specs.declared.wants.ConnFault.{ConnFault}
use Rattle.conn_script.specs.declared.wants.End.{End}
use Rattle.conn_script.specs.declared.wants.End.TheVariants as ends
use Rattle.conn_script.specs.declared.wants.Served.{Served}
use Rattle.conn_script.specs.declared.wants.TheConstants.{LIMIT}
use Rattle.hub_conn.specs.Conversation.{Finished}
use Rattle.hub_conn.specs.Talk.{result_cause}
use Rattle.hub_links.specs.Links.{RoseFor}
use Rattle.hub_workers.specs.World.{Knowledge}
use Rattle.hub_serving.specs.Outside.{Onward, Outside}

-- What the pass has seen begins with what it had seen; it is legal, and so safe. Its own entries are those of its number
-- there; its number and the passes that it has joined are as before.
pub record SeesOn (c : HubConfig) (old new : Knowledge) : Type 0 where
  pub begins : IsPrefix old.seen new.seen
  pub is_legal : legal c (past new) ≡ true
  pub is_safe : IsSafe (past new)
  pub number_is : new.number ≡ old.number
  pub ended_are : new.ended ≡ old.ended
  pub exact : entries_of new.number new.seen ≡ new.mine

-- how often the pass found the hub spent, after a conversation that ended so
abbrev pub spent_after : ℕ → End → ℕ
spent_after count ends.HubSpent = count + 1
spent_after count end = count

-- the same with its faults: each may come behind the call that found the hub spent
abbrev pub CountsSpent : ℕ → Result Served ConnFault → ℕ → Type 0
CountsSpent before (Ok served) after = after ≡ spent_after before served.end
CountsSpent before (Err fault) after = (after ≡ before) ⊎ (after ≡ before + 1)

module _ {N C : Type 0} (hub : SharedHub) (gives : N → List ℕ → Ask → Came → N → Type 0) (tells : C → Tick → ℕ → C → Type 0) where
  -- There are bytes, steps and written bytes by which all outside went on, and they are a conversation that ended so.
  pub record HasServed (old : Outside N C) (result : Result Served ConnFault) (new : Outside N C) : Type 0 where
    pub bytes : List ℕ
    pub steps : List Step
    pub written : List ℕ
    pub finished : Finished None result bytes steps written
    pub onward : Onward hub gives tells old bytes steps written new
    pub within : length bytes ≤ LIMIT

  -- All that was read, done and written is one conversation. What the pass has seen by then is legal and begins with all that it
  -- had seen. The count of what the end blames rose, and where it blames nothing the end of the input was not read. And the pass
  -- found the hub spent just where the end says so.
  pub record ServesConnection (old : Outside N C) (result : Result Served ConnFault) (new : Outside N C) : Type 0 where
    pub served : HasServed old result new
    pub sees : SeesOn (config_of hub) old.world.view new.world.view
    pub blames : RoseFor (result_cause result) old.link new.link
    pub spent : CountsSpent old.world.view.spent result new.world.view.spent

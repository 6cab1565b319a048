-- What was told of a call that goes over all nodes or all requests, change by change.
use Rattle.std.specs.Prelude.{◌≡◌, ℕ, List, map, Option, Result}
use Rattle.grid_types.specs.declared.entry.Entry.{Entry}
use Rattle.grid_types.specs.declared.entry.Change.{Change}
use Rattle.grid_types.specs.History.{after}
use Rattle.grid_types.specs.Tables.{entry}
use Rattle.grid_types.specs.Calls.{Call, Reply}
use Rattle.grid_journal.specs.declared.piece.PieceFault.{PieceFault}
use Rattle.hub_core.specs.declared.hub.HubCore.{HubCore}
use Rattle.hub_core.specs.CoreStands.{Stands}
use Rattle.hub_core.specs.Serves.{MayCall}
use Rattle.hub_tellers.specs.Tells.{ToldAll, entered}

-- whose changes are told, behind which history and behind which bytes
pub record Since : Type 0 where
  pub caller : ℕ
  pub before : List Entry
  pub bytes : List ℕ

-- all changes of the caller since then were told
pub record ToldSince (caller : ℕ) (bytes : List ℕ) (told : Result (Unit {0}) PieceFault)
    (since : Since) (past : List Entry) : Type 0 where
  pub same_caller : caller ≡ since.caller
  pub changes : List Change
  pub goes_on : past ≡ after since.before since.caller changes
  pub tells : ToldAll since.bytes bytes (map (entry since.caller) changes) told

-- for whatever history the core stood where the caller may call: what the call entered is told
pub record TellsCall (core : HubCore) (caller : ℕ) (call : Call) (at : ℕ)
    (reply : Option Reply) (old new : List ℕ) (told : Result (Unit {0}) PieceFault) :
    Type 0 where
  pub of : (history : List Entry) → Stands core history → MayCall history caller call →
      ToldAll old new (entered core.config history caller call at reply) told

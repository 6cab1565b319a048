-- What holds where a call that may change the published map was not answered.
use Rattle.std.specs.Prelude.{◌≡◌, ℕ, true, List, []}
use Rattle.grid_types.specs.declared.config.HubConfig.{HubConfig}
use Rattle.grid_types.specs.declared.entry.Entry.{Entry}
use Rattle.grid_types.specs.History.{history_of}
use Rattle.grid_types.specs.Calls.{Call}
use Rattle.grid_types.specs.Legal.{legal}
use Rattle.hub_core.specs.Serves.{MayCall}
use Rattle.turn_cell.specs.declared.views.View.{View}
use Rattle.hub_cell.specs.declared.grid.Grid.{Grid}
use Rattle.hub_cell.specs.declared.hub.SharedHub.{SharedHub}
use Rattle.hub_cell.specs.declared.hub.CellFault.{CellFault}
use Rattle.hub_cell.specs.declared.hub.CellFault.TheVariants as fault
use Rattle.hub_cell.specs.declared.hub.announcing.Unanswered.{Unanswered}
use Rattle.hub_cell.specs.declared.hub.announcing.Unanswered.TheVariants as unanswered
use Rattle.hub_cell.specs.Passes.{config_of, IsSpent}
use Rattle.hub_cell.specs.Shared.{TookTurn, KeepsAll}

-- The pass took a turn that made no entry, and has all its tokens. There was no memory at the turn's point.
pub record SharedLacks (c : HubConfig) (old : View Grid) (call : Call) (lacks : HubConfig → List Entry → ℕ → Type 0) (new : View Grid) : Type 0 where
  pub point : List Entry
  pub turn : TookTurn old point [] new
  pub keeps : KeepsAll old new
  pub may : MayCall (history_of point) old.number call
  pub is_legal : legal c (history_of point) ≡ true
  pub lacks_there : lacks c (history_of point) old.number

module _ {Q : Type 0} where
  -- what was asked comes back: no turn was given, or there was no memory
  abbrev pub IsUnanswered : SharedHub → View Grid → Q → Call → (HubConfig → List Entry → ℕ → Type 0) → View Grid → Unanswered Q → Type 0
  IsUnanswered hub old question call lacks new (unanswered.Spent s) = IsSpent hub old s.spent new × (s.token ≡ question)
  IsUnanswered hub old question call lacks new (unanswered.Memory q) = (q ≡ question) × SharedLacks (config_of hub) old call lacks new

  abbrev pub fault_of : Unanswered Q → CellFault
  fault_of (unanswered.Spent s) = fault.Spent s.spent
  fault_of (unanswered.Memory q) = fault.Memory

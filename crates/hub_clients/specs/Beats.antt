-- Passes that were split from one, and what is left of them after a join.
use Rattle.std.specs.Prelude.{◌≡◌, ℕ, List, [], ◌∷◌, length, Result, IfOk}
use Rattle.grid_types.specs.declared.entry.Entry.{Entry}
use Rattle.grid_types.specs.declared.entry.Change.TheVariants as change
use Rattle.grid_types.specs.declared.capabilities.Registration.{Registration}
use Rattle.grid_types.specs.declared.names.Moment.{Moment}
use Rattle.grid_types.specs.Tables.{entry}
use Rattle.turn_cell.specs.declared.views.Ended.{Ended}
use Rattle.hub_cell.specs.declared.hub.Pass.{Pass}
use Rattle.hub_cell.specs.declared.hub.SharedHub.{SharedHub}
use Rattle.hub_cell.specs.Passes.{knows, IsOf}
use Rattle.hub_clients.specs.declared.many.Fault.{Fault}

-- each ended pass has so many entries
abbrev pub EachHas : ℕ → List Ended → Type 0
EachHas n [] = Unit {0}
EachHas n (e ∷ es) = (length e.mine ≡ n) × EachHas n es

-- the one entry is the caller's, and lists the node as number 1
abbrev pub IsListing : ℕ → Registration → List Entry → Type 0
IsListing caller node mine = (at : Moment) × (mine ≡ entry caller (change.Registered 1 node at) ∷ [])

module _ (hub : SharedHub) where
  -- a pass that has made so many entries, and joined none
  abbrev pub HasMade : ℕ → Pass → Type 0
  HasMade n pass = IsOf hub pass × (length (knows pass).mine ≡ n) × ((knows pass).ended ≡ [])

  -- a pass that has made none
  abbrev pub IsNew : Pass → Type 0
  IsNew pass = HasMade 0 pass

  abbrev pub MadeOrNot : ℕ → Result Pass Fault → Type 0
  MadeOrNot n r = IfOk r (HasMade n)

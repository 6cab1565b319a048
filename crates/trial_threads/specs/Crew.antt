-- Passes that were split from one, and what is left of them after a join.
use Rattle.std.specs.Prelude.{◌≡◌, ℕ, List, [], ◌∷◌, length, Result, IfOk}
use Rattle.turn_cell.specs.declared.views.Ended.{Ended}
use Rattle.turn_cell.specs.declared.cell.Pass.{Pass}
use Rattle.grid_types.specs.declared.spent.Spent.{Spent}
use Rattle.turn_cell.specs.declared.cell.TurnCell.{TurnCell}
use Rattle.turn_cell.specs.Cells.{view_of, IsOf, IsFree}

-- each ended pass has so many entries
abbrev pub EachHas : ℕ → List Ended → Type 0
EachHas n [] = Unit {0}
EachHas n (e ∷ es) = (length e.mine ≡ n) × EachHas n es

module _ {V : Type 0} (cell : TurnCell V) where
  -- a pass that has made so many entries, and joined none
  abbrev pub HasMade : ℕ → Pass V → Type 0
  HasMade n pass = IsOf cell pass × IsFree pass × (length (view_of pass).mine ≡ n) × ((view_of pass).ended ≡ [])

  -- a pass that has made none
  abbrev pub IsNew : Pass V → Type 0
  IsNew pass = HasMade 0 pass

  abbrev pub MadeOrSpent : ℕ → Result (Pass V) Spent → Type 0
  MadeOrSpent n r = IfOk r (HasMade n)

-- Rows at places, in an order of their own.
use Rattle.std.specs.Prelude.{◌≡◌, ℕ, ◌+◌, Bool, false, cond, nat_eq, nat_lt, List, [], ◌∷◌, length, slice_get, Option, None, Some}
use Rattle.map_view.specs.declared.sheet.Row.{Row}
use Rattle.map_view.specs.Rows.{is_before}

abbrev pub onto : Option Row → List Row → List Row
onto None rows = rows
onto (Some r) rows = r ∷ rows

-- the rows at these places, in this order
abbrev pub laid : List Row → List ℕ → List Row
laid rows [] = []
laid rows (p ∷ places) = onto (slice_get rows p) (laid rows places)

-- how often a place stands in the list
abbrev pub times : ℕ → List ℕ → ℕ
times p [] = 0
times p (q ∷ places) = cond (nat_eq q p) 1 0 + times p places

-- each place of a row stands once, in the order or among the free ones, and no other place stands there
abbrev pub IsRack : List Row → List ℕ → List ℕ → Type 0
IsRack rows order free = (length order + length free ≡ length rows) × ((p : ℕ) → times p order + times p free ≡ cond (nat_lt p (length rows)) 1 0)

-- a row was put at a place that the order does not have, and the order's rows are as they were
pub record Places (old new : List Row) (order : List ℕ) (place : ℕ) (row : Row) (free : List ℕ) : Type 0 where
  pub stands : slice_get new place ≡ Some row
  pub same : laid new order ≡ laid old order
  pub total : (length order + 1) + length free ≡ length new
  pub once : (p : ℕ) → (cond (nat_eq place p) 1 0 + times p order) + times p free ≡ cond (nat_lt p (length new)) 1 0

-- the row comes before the session's
abbrev pub told_before : List ℕ → Option Row → Bool
told_before s None = false
told_before s (Some r) = is_before r.session s

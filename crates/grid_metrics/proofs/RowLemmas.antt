-- Rows stand one behind the other.
use Rattle.std.proofs.Common.{◌≡◌, List, ℕ, ◌∙◌, ap, subst}
use Rattle.std.specs.Prelude.{Result, OnOk}
use Rattle.grid_metrics.specs.Rows.{Row, with_row}

-- a row behind bytes that are known by another name
pub row_behind : (new mid old : List ℕ) (row : Row) → new ≡ with_row mid row → mid ≡ old → new ≡ with_row old row
row_behind new mid old row e f = e ∙ ap (λ (bytes : List ℕ). with_row bytes row) f

-- the same, where the row was put at all
pub last_behind : {A E : Type 0} (r : Result A E) (new mid old : List ℕ) (row : Row) → OnOk r (new ≡ with_row mid row) → mid ≡ old → OnOk r (new ≡ with_row old row)
last_behind r new mid old row on f = subst (λ (bytes : List ℕ). OnOk r (new ≡ with_row bytes row)) f on

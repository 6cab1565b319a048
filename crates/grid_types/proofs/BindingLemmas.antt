-- Which bindings there are.
use Rattle.std.proofs.Common.{◌≡◌, ℕ, Bool, true, false, ◌||◌, List, [], ◌∷◌, refl, ◌∙◌, arith}
use Rattle.std.specs.Prelude.{nat_eq, is_some}
use Rattle.grid_types.specs.declared.entry.Entry.{Entry}
use Rattle.grid_types.specs.declared.entry.Change.{Change}
use Rattle.grid_types.specs.declared.entry.Change.TheVariants as change
use Rattle.grid_types.specs.Bindings.{bindings, bound_of}
use Rattle.grid_types.proofs.SessionLemmas.{entry}
use Rattle.grid_types.specs.Lists.{has}
use Rattle.grid_types.proofs.LeastLemmas.{has-last}

or_true : (v : Bool) → (v || true) ≡ true
or_true true = refl
or_true false = refl

or_false : (v : Bool) → (v || false) ≡ v
or_false true = refl
or_false false = refl

-- a binding is there exactly where it has its Bound
pub has-bindings : (H : List Entry) (b : ℕ) → has b (bindings H) ≡ is_some (bound_of H b)
has-bindings [] b = refl
has-bindings (e ∷ H) b = by_change e.caller e.change (has-bindings H b)
  where
    by_change : (k : ℕ) (ch : Change) → has b (bindings H) ≡ is_some (bound_of H b) → has b (bindings (entry k ch ∷ H)) ≡ is_some (bound_of (entry k ch ∷ H) b)
    by_change k (change.Bound r s x cs at) before = has-last b r (bindings H) ∙ (rw before (elim (nat_eq r b) as (λ v. nat_eq r b ≡ v → (is_some (bound_of H b) || nat_eq b r) ≡ is_some (bound_of (entry k (change.Bound r s x cs at) ∷ H) b)) [
      | true ↦ λ d. let same : nat_eq b r ≡ true = grind arith in rw (d, same) (or_true (is_some (bound_of H b)))
      | false ↦ λ d. let other : nat_eq b r ≡ false = grind arith in rw (d, other) (or_false (is_some (bound_of H b)))
    ] refl))
    by_change k ch before = before

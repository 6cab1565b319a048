-- What each seat knows, in a list that was written at one seat or got one more.
use Rattle.std.proofs.Common.{◌≡◌, ◌≢◌, ◌⊎◌, ℕ, zero, suc, List, [], ◌∷◌, ◌++◌, set, refl, ap, sym, inl, inr, ⊎_elim, arith}
use mathlib.Core.Option.{some, some-injective, some-ne-none}
use lib.ListN.{get_elem?}

module _ {V : Type 0} where
  pub seat_written : (views : List V) (seat j : ℕ) (v w : V) → get_elem? (set views seat v) j ≡ some w → ((j ≡ seat) × (v ≡ w)) ⊎ ((j ≢ seat) × (get_elem? views j ≡ some w))
  seat_written [] seat j v w at = absurd (some-ne-none w (sym at))
  seat_written (u ∷ views) zero zero v w at = inl (refl, some-injective v w at)
  seat_written (u ∷ views) zero (suc j) v w at = inr ((λ e. omega arith), at)
  seat_written (u ∷ views) (suc seat) zero v w at = inr ((λ e. omega arith), at)
  seat_written (u ∷ views) (suc seat) (suc j) v w at =
      ⊎_elim (λ here. inl (ap suc here.0, here.1)) (λ there. let apart = there.0 in inr ((λ e. apart (omega arith)), there.1)) (seat_written views seat j v w at)

  pub seat_added : (views : List V) (v w : V) (j : ℕ) → get_elem? (views ++ v ∷ []) j ≡ some w → (get_elem? views j ≡ some w) ⊎ (v ≡ w)
  seat_added [] v w zero at = inr (some-injective v w at)
  seat_added [] v w (suc j) at = absurd (some-ne-none w (sym at))
  seat_added (u ∷ views) v w zero at = inl at
  seat_added (u ∷ views) v w (suc j) at = seat_added views v w j at

-- What is told gains piece by piece.
use Rattle.std.proofs.Common.{◌≡◌, ◌≢◌, ℕ, zero, suc, ◌+◌, ◌-◌, ◌<◌, List, [], ◌∷◌, ◌++◌, length, take, drop, sym, subst, arith}
use Rattle.std.specs.Prelude.{Option}
use Rattle.std.proofs.Math.Seq.{take-add}
use Rattle.std.proofs.lemmas.Grind.{common_steps}
use Rattle.grid_outside.specs.Told.{Gains}
use Rattle.grid_outside.specs.StreamLaws.{gains_more}

take_next : (done n : ℕ) (bytes : List ℕ) → take (done + n) bytes ≡ take done bytes ++ take n (take (length bytes - done) (drop done bytes))
take_next done n bytes = grind (arith, common_steps, take-add done n bytes)

-- the next n bytes are gained behind those that are done
pub gains_next : (a b c : Option (List ℕ)) (done n : ℕ) (bytes : List ℕ) → Gains a b (take done bytes) →
    Gains b c (take n (take (length bytes - done) (drop done bytes))) → Gains a c (take (done + n) bytes)
gains_next a b c done n bytes p q = subst (Gains a c) (sym (take_next done n bytes)) (gains_more a b c _ _ p q)

-- there is something left
pub left_over : (i : ℕ) (bytes : List ℕ) → i < length bytes → drop i bytes ≢ []
left_over zero [] h = absurd (omega (arith, h))
left_over zero (b ∷ bytes) h = λ e. absurd cc
left_over (suc i) [] h = absurd (omega (arith, h))
left_over (suc i) (b ∷ bytes) h = left_over i bytes (omega (arith, h))

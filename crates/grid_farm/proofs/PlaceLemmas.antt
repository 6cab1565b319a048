-- Where the first row stands that passes a test.
use Rattle.std.proofs.Common.{◌≡◌, ℕ, ◌≤◌, Bool, true, false, cond, nat_lt, List, length, refl, ◌∙◌, arith}
use Rattle.std.specs.Prelude.{None, Some}
use Rattle.std.specs.List.{position_from, position_or_len}
use Rattle.std.proofs.lemmas.Bool.Decides.{nat_tests}
use Rattle.std.proofs.lemmas.Iterator.Adapters.{position_from-zero}
use Rattle.std.proofs.lemmas.List.Sums.{prefix_len-le-length}

found_at : (b : Bool) (place i : ℕ) → cond b (Some place) None ≡ Some i → i ≡ place
found_at true place i e = cc
found_at false place i e = absurd cc

none_at : (b : Bool) (place count : ℕ) → nat_lt place count ≡ b → place ≤ count → cond b (Some place) None ≡ None → count ≡ place
none_at true place count t l e = absurd cc
none_at false place count t l e = grind (arith, nat_tests)

pub found : {A : Type 0} (test : A → Bool) (rows : List A) (i : ℕ) → position_from test 0 rows ≡ Some i → i ≡ position_or_len test rows
found test rows i e = found_at _ (position_or_len test rows) i (position_from-zero test rows ∙ e)

pub none_found : {A : Type 0} (test : A → Bool) (rows : List A) → position_from test 0 rows ≡ None → length rows ≡ position_or_len test rows
none_found test rows e =
    none_at (nat_lt (position_or_len test rows) (length rows)) (position_or_len test rows) (length rows) refl (prefix_len-le-length _ rows)
    (position_from-zero test rows ∙ e)

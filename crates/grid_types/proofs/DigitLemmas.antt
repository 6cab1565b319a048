-- What parsing tells of a text of digits alone.
use Rattle.std.proofs.Common.{◌≡◌, ◌≢◌, ℕ, ◌^◌, ◌<◌, ◌≤◌, Bool, true, false, List, [], ◌∷◌, refl, sym, ap, subst, arith}
use Rattle.std.proofs.lemmas.Bool.Decides.{nat_tests}
use Rattle.std.proofs.lemmas.Str.Parse.{without_leading_plus_none}
use Rattle.std.specs.Prelude.{None, Some, Result, Ok, Err, nat_le}
use Rattle.std.specs.Char.{is_ascii_digit, digit_value}
use Rattle.std.specs.List.{list_all}
use Rattle.std.specs.Str.Parse.{AllDigits, IsNumeral, digits_value, without_leading_plus, ParsesUnsigned}
use Rattle.grid_types.specs.Lists.{when}
use Rattle.grid_types.specs.QueueTime.{is_queue_time}
use Rattle.grid_types.proofs.ListLemmas.{and_left, and_right}

digit_below : (c : ℕ) → is_ascii_digit c ≡ true → digit_value c < 10
digit_below c d = grind (arith, nat_tests)

no_plus : (c : ℕ) → is_ascii_digit c ≡ true → c ≢ 43
no_plus c d e = grind (arith, nat_tests)

all-digits : (v : List ℕ) → list_all is_ascii_digit v ≡ true → AllDigits 10 v
all-digits [] h = _
all-digits (c ∷ v) h = (digit_below c (and_left _ _ h), all-digits v (and_right _ _ h))

plain : (v : List ℕ) → list_all is_ascii_digit v ≡ true → without_leading_plus v ≡ v
plain [] h = refl
plain (c ∷ v) h = without_leading_plus_none (c ∷ v) (no_plus c (and_left _ _ h))

Parses : List ℕ → Type 0
Parses v = IsNumeral 10 v × (digits_value 10 v < 2 ^ 64)

-- digits that are no number of 64 bits are no time, since there are none or they write too great a number
pub unparsed-time : {E : Type 0} (v : List ℕ) (r : Result ℕ E) (e : E) → list_all is_ascii_digit v ≡ true → r ≡ Err e → ParsesUnsigned 64 10 v r →
    None ≡ when (is_queue_time v) (digits_value 10 v)
unfolding Parses
unparsed-time [] r e h is reads = refl
unparsed-time {E = E} (c ∷ v) r e h is reads = by_test (is_queue_time (c ∷ v)) refl (subst (λ (q : Result ℕ E). ParsesUnsigned 64 10 (c ∷ v) q) is reads)
  where
    within : (n : ℕ) → nat_le n 86_400_000 ≡ true → n < 2 ^ 64
    within n t = let le : n ≤ 86_400_000 = grind arith in omega (arith, le)

    by_test : (b : Bool) → is_queue_time (c ∷ v) ≡ b → ParsesUnsigned {E = E} 64 10 (c ∷ v) (Err e) → None ≡ when b (digits_value 10 (c ∷ v))
    by_test false t fails = refl
    by_test true t fails = absurd (fails (subst Parses (sym (plain (c ∷ v) h)) ((omega arith, all-digits (c ∷ v) h), within (digits_value 10 (c ∷ v)) (and_right _ _ t))))

pub parsed-time : {E : Type 0} (v : List ℕ) (r : Result ℕ E) (n : ℕ) → list_all is_ascii_digit v ≡ true → r ≡ Ok n → ParsesUnsigned 64 10 v r → 1_000 ≤ n → n ≤ 86_400_000 →
    Some n ≡ when (is_queue_time v) (digits_value 10 v)
parsed-time {E = E} v r n h is reads least most =
    let read : ParsesUnsigned {E = E} 64 10 v (Ok n) = subst (λ (q : Result ℕ E). ParsesUnsigned 64 10 v q) is reads in
    let same : n ≡ digits_value 10 v = subst (λ (w : List ℕ). n ≡ digits_value 10 w) (plain v h) read.1 in
    let above : nat_le 1_000 (digits_value 10 v) ≡ true = rw (← same) (grind arith) in
    let below : nat_le (digits_value 10 v) 86_400_000 ≡ true = rw (← same) (grind arith) in
    let is_time : is_queue_time v ≡ true = rw (h, above, below) refl in
    rw is_time (ap (λ (m : ℕ). Some m) same)

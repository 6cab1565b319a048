-- The number that digits write, one digit after the other.
use Rattle.std.proofs.Common.{◌≡◌, ℕ, zero, suc, ◌+◌, ◌*◌, ◌<◌, true, List, [], ◌∷◌, length, take, sym, ap, ◌∙◌, arith, get_or}
use Rattle.std.proofs.lemmas.Bool.Decides.{nat_tests}
use Rattle.std.proofs.lemmas.Int.Digits.{digits_value_more}
use Rattle.std.proofs.lemmas.Str.Parse.{digits_value-take-le}
use Rattle.std.specs.Char.{is_ascii_digit, digit_value}
use Rattle.std.specs.List.{list_all}
use Rattle.std.specs.Str.Parse.{digits_value}
use Rattle.grid_types.proofs.ListLemmas.{and_left, and_right}

pub digit_is : (c : ℕ) → is_ascii_digit c ≡ true → (digit_value c + 48 ≡ c) × (digit_value c < 10)
digit_is c d = (grind (arith, nat_tests), grind (arith, nat_tests))

pub digit_at : (v : List ℕ) (i : ℕ) → list_all is_ascii_digit v ≡ true → i < length v → is_ascii_digit (get_or v i 0) ≡ true
digit_at [] i d h = absurd (omega arith)
digit_at (c ∷ v) zero d h = and_left _ _ d
digit_at (c ∷ v) (suc i) d h = digit_at v i (and_right _ _ d) (omega arith)

pub value_more : (v : List ℕ) (i b n m : ℕ) → list_all is_ascii_digit v ≡ true → i < length v → b ≡ get_or v i 0
    → n ≡ digits_value 10 (take i v) → m + 48 ≡ b → n * 10 + m ≡ digits_value 10 (take (i + 1) v)
value_more v i b n m d h is so_far digit =
    let more = digits_value_more 10 v i h in
    let c = digit_is (get_or v i 0) (digit_at v i d h) in
    let same : digit_value (get_or v i 0) ≡ m = omega (arith, c.0, is, digit) in
    sym (more ∙ ap (λ (k : ℕ). digits_value 10 (take i v) * 10 + k) same ∙ ap (λ (k : ℕ). k * 10 + m) (sym so_far))

pub value_over : (v : List ℕ) (i k : ℕ) → k < digits_value 10 (take (i + 1) v) → k < digits_value 10 v
value_over v i k h = let le = digits_value-take-le 10 v (i + 1) (omega arith) in omega (arith, le)

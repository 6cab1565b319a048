-- serde_json reads a string as its characters.
use Rattle.std.proofs.Common.{◌≡◌, ◌≢◌, ◌⊎◌, ℕ, ◌+◌, ◌-◌, ◌*◌, ◌<◌, ◌≤◌, Bool, true, false, ◌&&◌, ◌||◌, ◌==◌, nat_lt, nat_le, List, [], ◌∷◌, ◌++◌, refl, ap, ◌∙◌, sym, arith, subst, inl, inr, Option, Some, option_and_then}
use Rattle.std.proofs.lemmas.List.{append_assoc}
use Rattle.std.proofs.lemmas.Bool.Decides.{nat_tests}
use Rattle.std.proofs.lemmas.Bool.{ne_eqb, lt-ltb, le-ltb, eqb-true}
use Rattle.std.specs.Char.{digit_value}
use Rattle.json.specs.Text.{plain, content, code_unit, short_escape, is_high_surrogate, is_low_surrogate}
use Rattle.json.specs.Word as json_word
use Rattle.json.specs.Token.{Token, string}
use Rattle.json.specs.Lex.{lex, in_string, punctuate, tokens}
use Rattle.json.specs.Json as json
use Rattle.json.proofs.Grammar.{value_is}
use Rattle.serde_json.specs.Read.{read, of_json}
use Rattle.serde_json.specs.Data as data_of
use Rattle.json_spans.specs.Bytes.{is_hex, is_high, is_low, is_short}
use Rattle.json_spans.specs.Grammar as grammar
use Rattle.json_spans.specs.Grammar.{Char, char, chars, quoted, IsChar, AreChars, is_d, is_surrogate}
use Rattle.json_spans.specs.Characters.{escaped, code, meaning_of, meaning, IsMeaning}
use Rattle.json_spans.specs.Parts.{Part}
use Rattle.json_spans.proofs.Forward.{holds}

-- ---- hex digits

value_digit : (x : ℕ) → 48 ≤ x → x ≤ 57 → digit_value x ≡ x - 48
value_digit x lo hi = rw (le-ltb x 48 lo, lt-ltb x 58 (omega arith))

value_upper : (x : ℕ) → 65 ≤ x → x ≤ 70 → digit_value x ≡ x - 55
value_upper x lo hi = rw (le-ltb x 48 (omega arith), le-ltb x 58 (omega arith), le-ltb x 65 lo, lt-ltb x 91 (omega arith))

value_lower : (x : ℕ) → 97 ≤ x → x ≤ 102 → digit_value x ≡ x - 87
value_lower x lo hi = rw (le-ltb x 48 (omega arith), le-ltb x 58 (omega arith), le-ltb x 65 (omega arith), le-ltb x 91 (omega arith), le-ltb x 97 lo, lt-ltb x 123 (omega arith))

-- the three runs of hex digits
abbrev Runs : ℕ → Type 0
Runs x = ((48 ≤ x) × (x ≤ 57)) ⊎ (((97 ≤ x) × (x ≤ 102)) ⊎ ((65 ≤ x) × (x ≤ 70)))

runs : (x : ℕ) → is_hex x ≡ true → Runs x
runs x h = by_tests (nat_le 48 x) (nat_le x 57) (nat_le 97 x) (nat_le x 102) (nat_le 65 x) (nat_le x 70) refl refl refl refl refl refl h
  where
    le : (a b : ℕ) → nat_le a b ≡ true → a ≤ b
    le a b e = grind (arith, nat_tests)

    by_tests : (a b c d e f : Bool) → nat_le 48 x ≡ a → nat_le x 57 ≡ b → nat_le 97 x ≡ c → nat_le x 102 ≡ d → nat_le 65 x ≡ e → nat_le x 70 ≡ f → (((a && b) || (c && d)) || (e && f)) ≡ true → Runs x
    by_tests true true c d e f ha hb hc hd he hf g = inl (le 48 x ha, le x 57 hb)
    by_tests true false true true e f ha hb hc hd he hf g = inr (inl (le 97 x hc, le x 102 hd))
    by_tests false b true true e f ha hb hc hd he hf g = inr (inl (le 97 x hc, le x 102 hd))
    by_tests true false true false true true ha hb hc hd he hf g = inr (inr (le 65 x he, le x 70 hf))
    by_tests true false false d true true ha hb hc hd he hf g = inr (inr (le 65 x he, le x 70 hf))
    by_tests false b true false true true ha hb hc hd he hf g = inr (inr (le 65 x he, le x 70 hf))
    by_tests false b false d true true ha hb hc hd he hf g = inr (inr (le 65 x he, le x 70 hf))
    by_tests a b c d e f ha hb hc hd he hf g = absurd (cc)

hex_below : (x : ℕ) → is_hex x ≡ true → digit_value x < 16
hex_below x h = by_run (runs x h)
  where
    by_run : Runs x → digit_value x < 16
    by_run (inl r) = omega (arith, value_digit x r.0 r.1, r.1)
    by_run (inr (inl r)) = omega (arith, value_lower x r.0 r.1, r.1)
    by_run (inr (inr r)) = omega (arith, value_upper x r.0 r.1, r.1)

d_value : (x : ℕ) → is_d x ≡ true → digit_value x ≡ 13
d_value x h = by_tests (x == 100) (x == 68) refl refl h
  where
    by_tests : (a b : Bool) → (x == 100) ≡ a → (x == 68) ≡ b → (a || b) ≡ true → digit_value x ≡ 13
    by_tests true b ha hb g = ap digit_value (eqb-true x 100 ha)
    by_tests false true ha hb g = ap digit_value (eqb-true x 68 hb)
    by_tests false false ha hb g = absurd (cc)

other_value : (x : ℕ) → is_hex x ≡ true → is_d x ≡ false → digit_value x ≢ 13
other_value x h d = by_run (runs x h)
  where
    apart : (x ≢ 100) × (x ≢ 68)
    apart = (grind (arith, nat_tests), grind (arith, nat_tests))

    by_run : Runs x → digit_value x ≢ 13
    by_run (inl r) = λ e. absurd (omega (arith, value_digit x r.0 r.1, r.0, r.1, e))
    by_run (inr (inl r)) = λ e. apart.0 (omega (arith, value_lower x r.0 r.1, r.0, r.1, e))
    by_run (inr (inr r)) = λ e. apart.1 (omega (arith, value_upper x r.0 r.1, r.0, r.1, e))

-- a second digit of a first half
abbrev IsEight : ℕ → Type 0
IsEight v = (8 ≤ v) × (v ≤ 11)

high_value : (x : ℕ) → is_high x ≡ true → (8 ≤ digit_value x) × (digit_value x ≤ 11)
high_value x h = by_tests (x == 56) (x == 57) (x == 97) (x == 98) (x == 65) (x == 66) refl refl refl refl refl refl h
  where
    at : (k : ℕ) → (x == k) ≡ true → IsEight (digit_value k) → IsEight (digit_value x)
    at k e p = let Q : ℕ → Type 0 = λ k. IsEight (digit_value k) in subst Q (sym (eqb-true x k e)) p

    by_tests : (a b c d e f : Bool) → (x == 56) ≡ a → (x == 57) ≡ b → (x == 97) ≡ c → (x == 98) ≡ d → (x == 65) ≡ e → (x == 66) ≡ f → (((((a || b) || c) || d) || e) || f) ≡ true → IsEight (digit_value x)
    by_tests true b c d e f ha hb hc hd he hf g = at 56 ha (omega arith, omega arith)
    by_tests false true c d e f ha hb hc hd he hf g = at 57 hb (omega arith, omega arith)
    by_tests false false true d e f ha hb hc hd he hf g = at 97 hc (omega arith, omega arith)
    by_tests false false false true e f ha hb hc hd he hf g = at 98 hd (omega arith, omega arith)
    by_tests false false false false true f ha hb hc hd he hf g = at 65 he (omega arith, omega arith)
    by_tests false false false false false true ha hb hc hd he hf g = at 66 hf (omega arith, omega arith)
    by_tests false false false false false false ha hb hc hd he hf g = absurd (cc)

low_value : (x : ℕ) → is_low x ≡ true → (12 ≤ digit_value x) × (digit_value x ≤ 15)
low_value x h = by_tests (nat_le 99 x) (nat_le x 102) (nat_le 67 x) (nat_le x 70) refl refl refl refl h
  where
    le : (a b : ℕ) → nat_le a b ≡ true → a ≤ b
    le a b e = grind (arith, nat_tests)

    by_tests : (a b c d : Bool) → nat_le 99 x ≡ a → nat_le x 102 ≡ b → nat_le 67 x ≡ c → nat_le x 70 ≡ d → ((a && b) || (c && d)) ≡ true → (12 ≤ digit_value x) × (digit_value x ≤ 15)
    by_tests true true c d ha hb hc hd g =
        let v = value_lower x (omega (arith, le 99 x ha)) (le x 102 hb) in (omega (arith, v, le 99 x ha), omega (arith, v, le x 102 hb))
    by_tests true false true true ha hb hc hd g = let v = value_upper x (omega (arith, le 67 x hc)) (le x 70 hd) in (omega (arith, v, le 67 x hc), omega (arith, v, le x 70 hd))
    by_tests false b true true ha hb hc hd g = let v = value_upper x (omega (arith, le 67 x hc)) (le x 70 hd) in (omega (arith, v, le 67 x hc), omega (arith, v, le x 70 hd))
    by_tests a b c d ha hb hc hd g = absurd (cc)

-- a second digit of no half
none_value : (x : ℕ) → is_hex x ≡ true → is_high x ≡ false → is_low x ≡ false → digit_value x < 8
none_value x h hi lo = by_run (runs x h)
  where
    not_high : (x ≢ 56) × (x ≢ 57) × (x ≢ 97) × (x ≢ 98) × (x ≢ 65) × (x ≢ 66)
    not_high = (grind (arith, nat_tests), grind (arith, nat_tests), grind (arith, nat_tests), grind (arith, nat_tests), grind (arith, nat_tests), grind (arith, nat_tests))

    not_lower : 99 ≤ x → x ≤ 102 → ⊥
    not_lower a b = grind (arith, nat_tests)

    not_upper : 67 ≤ x → x ≤ 70 → ⊥
    not_upper a b = grind (arith, nat_tests)

    by_run : Runs x → digit_value x < 8
    by_run (inl r) = omega (arith, value_digit x r.0 r.1, r.0, r.1, not_high.0, not_high.1)
    by_run (inr (inl r)) = absurd (not_lower (omega (arith, r.0, not_high.2, not_high.3)) r.1)
    by_run (inr (inr r)) = absurd (not_upper (omega (arith, r.0, not_high.4, not_high.5)) r.1)

-- ---- code units

pub d_is_hex : (a : ℕ) → is_d a ≡ true → is_hex a ≡ true
d_is_hex a ha = grind (arith, nat_tests)

pub high_is_hex : (a : ℕ) → is_high a ≡ true → is_hex a ≡ true
high_is_hex a ha = grind (arith, nat_tests)

pub low_is_hex : (a : ℕ) → is_low a ≡ true → is_hex a ≡ true
low_is_hex a ha = grind (arith, nat_tests)

unit_is : (a b c d : ℕ) → is_hex a ≡ true → is_hex b ≡ true → is_hex c ≡ true → is_hex d ≡ true → code_unit a b c d ≡ Some (code a b c d)
unfolding code_unit
unit_is a b c d ha hb hc hd = rw (lt-ltb (digit_value a) 16 (hex_below a ha), lt-ltb (digit_value b) 16 (hex_below b hb), lt-ltb (digit_value c) 16 (hex_below c hc), lt-ltb (digit_value d) 16 (hex_below d hd))

-- a number below the surrogates or above them
abbrev IsApart : ℕ → Type 0
IsApart u = (u < 55296) ⊎ (57344 ≤ u)

apart_by : (a b c d : ℕ) → is_hex a ≡ true → is_hex b ≡ true → is_hex c ≡ true → is_hex d ≡ true → is_surrogate a b ≡ false → IsApart (code a b c d)
apart_by a b c d ha hb hc hd s = by_tests (is_d a) (is_high b) (is_low b) refl refl refl s
  where
    small : (x y z w : ℕ) → x < 13 → y < 16 → z < 16 → w < 16 → x * 4096 + y * 256 + z * 16 + w < 55296
    small x y z w hx hy hz hw = omega arith

    middle : (x y z w : ℕ) → x ≡ 13 → y < 8 → z < 16 → w < 16 → x * 4096 + y * 256 + z * 16 + w < 55296
    middle x y z w hx hy hz hw = omega arith

    large : (x y z w : ℕ) → 14 ≤ x → 57344 ≤ x * 4096 + y * 256 + z * 16 + w
    large x y z w hx = omega arith

    by_size : (x y z w : ℕ) → x ≢ 13 → x < 16 → y < 16 → z < 16 → w < 16 → IsApart (x * 4096 + y * 256 + z * 16 + w)
    by_size x y z w ne hx hy hz hw = by_less (nat_lt x 13) refl
      where
        less : nat_lt x 13 ≡ true → x < 13
        less e = grind (arith, nat_tests)

        more : nat_lt x 13 ≡ false → 13 ≤ x
        more e = grind (arith, nat_tests)

        by_less : (t : Bool) → nat_lt x 13 ≡ t → IsApart (x * 4096 + y * 256 + z * 16 + w)
        by_less true e = inl (small x y z w (less e) hy hz hw)
        by_less false e = inr (large x y z w (omega (arith, more e, ne)))

    by_tests : (d1 h l : Bool) → is_d a ≡ d1 → is_high b ≡ h → is_low b ≡ l → (d1 && (h || l)) ≡ false → IsApart (code a b c d)
    by_tests true true l e f g s = absurd (cc)
    by_tests true false true e f g s = absurd (cc)
    by_tests true false false e f g s = inl (middle _ _ _ _ (d_value a e) (none_value b hb f g) (hex_below c hc) (hex_below d hd))
    by_tests false h l e f g s = by_size _ _ _ _ (other_value a ha e) (hex_below a ha) (hex_below b hb) (hex_below c hc) (hex_below d hd)

no_surrogate : (u : ℕ) → IsApart u → (is_high_surrogate u ≡ false) × (is_low_surrogate u ≡ false)
no_surrogate u (inl h) = (grind (arith, nat_tests), grind (arith, nat_tests))
no_surrogate u (inr h) = (grind (arith, nat_tests), grind (arith, nat_tests))

first_is : (a b c d : ℕ) → is_d a ≡ true → is_high b ≡ true → is_hex c ≡ true → is_hex d ≡ true → is_high_surrogate (code a b c d) ≡ true
first_is a b c d ha hb hc hd = within _ (sized _ _ _ _ (d_value a ha) (high_value b hb) (hex_below c hc) (hex_below d hd))
  where
    sized : (x y z w : ℕ) → x ≡ 13 → IsEight y → z < 16 → w < 16 → (55296 ≤ x * 4096 + y * 256 + z * 16 + w) × (x * 4096 + y * 256 + z * 16 + w < 56320)
    sized x y z w hx hy hz hw = (omega (arith, hy.0), omega (arith, hy.1))

    within : (u : ℕ) → (55296 ≤ u) × (u < 56320) → is_high_surrogate u ≡ true
    within u h = let lo = h.0 in let hi = h.1 in grind (arith, nat_tests)

second_is : (a b c d : ℕ) → is_d a ≡ true → is_low b ≡ true → is_hex c ≡ true → is_hex d ≡ true → is_low_surrogate (code a b c d) ≡ true
second_is a b c d ha hb hc hd = within _ (sized _ _ _ _ (d_value a ha) (low_value b hb) (hex_below c hc) (hex_below d hd))
  where
    sized : (x y z w : ℕ) → x ≡ 13 → (12 ≤ y) × (y ≤ 15) → z < 16 → w < 16 → (56320 ≤ x * 4096 + y * 256 + z * 16 + w) × (x * 4096 + y * 256 + z * 16 + w < 57344)
    sized x y z w hx hy hz hw = (omega (arith, hy.0), omega (arith, hy.1))

    within : (u : ℕ) → (56320 ≤ u) × (u < 57344) → is_low_surrogate u ≡ true
    within u h = let lo = h.0 in let hi = h.1 in grind (arith, nat_tests)

-- ---- short escapes

record IsShortEscape (x : ℕ) : Type 0 where
  is : short_escape x ≡ Some (escaped x)
  no_u : (x == 117) ≡ false

short_is : (x : ℕ) → is_short x ≡ true → IsShortEscape x
unfolding short_escape
short_is x h = by_tests (x == 34) (x == 92) (x == 47) (x == 98) (x == 102) (x == 110) (x == 114) (x == 116) refl refl refl refl refl refl refl refl h
  where
    at : (k : ℕ) → (x == k) ≡ true → IsShortEscape k → IsShortEscape x
    at k e p = let Q : ℕ → Type 0 = λ k. IsShortEscape k in subst Q (sym (eqb-true x k e)) p

    by_tests : (a b c d e f g i : Bool) → (x == 34) ≡ a → (x == 92) ≡ b → (x == 47) ≡ c → (x == 98) ≡ d → (x == 102) ≡ e → (x == 110) ≡ f → (x == 114) ≡ g → (x == 116) ≡ i
        → (((((((a || b) || c) || d) || e) || f) || g) || i) ≡ true → IsShortEscape x
    by_tests true b c d e f g i ha hb hc hd he hf hg hi t = at 34 ha (record { is = refl; no_u = refl })
    by_tests false true c d e f g i ha hb hc hd he hf hg hi t = at 92 hb (record { is = refl; no_u = refl })
    by_tests false false true d e f g i ha hb hc hd he hf hg hi t = at 47 hc (record { is = refl; no_u = refl })
    by_tests false false false true e f g i ha hb hc hd he hf hg hi t = at 98 hd (record { is = refl; no_u = refl })
    by_tests false false false false true f g i ha hb hc hd he hf hg hi t = at 102 he (record { is = refl; no_u = refl })
    by_tests false false false false false true g i ha hb hc hd he hf hg hi t = at 110 hf (record { is = refl; no_u = refl })
    by_tests false false false false false false true i ha hb hc hd he hf hg hi t = at 114 hg (record { is = refl; no_u = refl })
    by_tests false false false false false false false true ha hb hc hd he hf hg hi t = at 116 hi (record { is = refl; no_u = refl })
    by_tests false false false false false false false false ha hb hc hd he hf hg hi t = absurd (cc)

-- ---- the content

content_char : (c : Char) (xs s : List ℕ) → IsChar c → content plain xs ≡ Some s → content plain (char c ++ xs) ≡ Some (meaning_of c ++ s)
unfolding content
content_char (grammar.plain x) xs s h e = rw (ne_eqb x 34 h.0, ne_eqb x 92 h.1, le-ltb x 32 h.2, e)
content_char (grammar.short x) xs s h e = let i = short_is x (holds h) in rw (i.no_u, i.is, e)
content_char (grammar.unit a b c d) xs s h e =
    let u = no_surrogate (code a b c d) (apart_by a b c d (holds h.0) (holds h.1) (holds h.2) (holds h.3) h.4) in
    rw (unit_is a b c d (holds h.0) (holds h.1) (holds h.2) (holds h.3), u.0, u.1, e)
content_char (grammar.pair a b c d f g i j) xs s h e =
    rw (
      unit_is a b c d (d_is_hex a (holds h.0.0)) (high_is_hex b (holds h.0.1)) (holds h.0.2) (holds h.0.3),
      first_is a b c d (holds h.0.0) (holds h.0.1) (holds h.0.2) (holds h.0.3),
      unit_is f g i j (d_is_hex f (holds h.1.0)) (low_is_hex g (holds h.1.1)) (holds h.1.2) (holds h.1.3),
      second_is f g i j (holds h.1.0) (holds h.1.1) (holds h.1.2) (holds h.1.3),
      e,
    )

content_is : (cs : List Char) (rest : List ℕ) → AreChars cs → content plain (chars cs ++ 34 ∷ rest) ≡ Some (meaning cs)
unfolding content
content_is [] rest h = refl
content_is (c ∷ cs) rest h = ap (content plain) (append_assoc (char c) (chars cs) (34 ∷ rest)) ∙ content_char c (chars cs ++ 34 ∷ rest) (meaning cs) h.0 (content_is cs rest h.1)

-- ---- the text is one string

inside : (x : ℕ) (xs : List ℕ) → (x == 34) ≡ false → (x == 92) ≡ false → lex in_string (x ∷ xs) ≡ lex in_string xs
unfolding lex
inside x xs e f = by_tests (json_word.is_operator x) (json_word.is_space x) refl refl
  where
    by_tests : (a b : Bool) → json_word.is_operator x ≡ a → json_word.is_space x ≡ b → lex in_string (x ∷ xs) ≡ lex in_string xs
    by_tests true b g h = rw (e, f, g)
    by_tests false true g h = rw (e, f, g, h)
    by_tests false false g h = rw (e, f, g, h)

escape_in : (x : ℕ) (xs : List ℕ) → lex in_string (92 ∷ x ∷ xs) ≡ lex in_string xs
unfolding lex
escape_in x xs = refl

pub hex_apart : (x : ℕ) → is_hex x ≡ true → (x ≢ 34) × (x ≢ 92)
hex_apart x h = by_run (runs x h)
  where
    by_run : Runs x → (x ≢ 34) × (x ≢ 92)
    by_run (inl r) = (λ e. omega (arith, r.0, r.1), λ e. omega (arith, r.0, r.1))
    by_run (inr (inl r)) = (λ e. omega (arith, r.0, r.1), λ e. omega (arith, r.0, r.1))
    by_run (inr (inr r)) = (λ e. omega (arith, r.0, r.1), λ e. omega (arith, r.0, r.1))

hex_in : (x : ℕ) (xs : List ℕ) → is_hex x ≡ true → lex in_string (x ∷ xs) ≡ lex in_string xs
hex_in x xs h = let a = hex_apart x h in inside x xs (ne_eqb x 34 a.0) (ne_eqb x 92 a.1)

hexes_in : (a b c d : ℕ) (xs : List ℕ) → is_hex a ≡ true → is_hex b ≡ true → is_hex c ≡ true → is_hex d ≡ true → lex in_string (92 ∷ 117 ∷ a ∷ b ∷ c ∷ d ∷ xs) ≡ lex in_string xs
hexes_in a b c d xs ha hb hc hd = escape_in 117 (a ∷ b ∷ c ∷ d ∷ xs) ∙ hex_in a (b ∷ c ∷ d ∷ xs) ha ∙ hex_in b (c ∷ d ∷ xs) hb ∙ hex_in c (d ∷ xs) hc ∙ hex_in d xs hd

char_in : (c : Char) (xs : List ℕ) → IsChar c → lex in_string (char c ++ xs) ≡ lex in_string xs
char_in (grammar.plain x) xs h = inside x xs (ne_eqb x 34 h.0) (ne_eqb x 92 h.1)
char_in (grammar.short x) xs h = escape_in x xs
char_in (grammar.unit a b c d) xs h = hexes_in a b c d xs (holds h.0) (holds h.1) (holds h.2) (holds h.3)
char_in (grammar.pair a b c d f g i j) xs h =
    hexes_in a b c d (92 ∷ 117 ∷ f ∷ g ∷ i ∷ j ∷ xs) (d_is_hex a (holds h.0.0)) (high_is_hex b (holds h.0.1)) (holds h.0.2) (holds h.0.3)
    ∙ hexes_in f g i j xs (d_is_hex f (holds h.1.0)) (low_is_hex g (holds h.1.1)) (holds h.1.2) (holds h.1.3)

chars_in : (cs : List Char) → AreChars cs → lex in_string (chars cs ++ 34 ∷ []) ≡ []
unfolding lex
chars_in [] h = refl
chars_in (c ∷ cs) h = ap (lex in_string) (append_assoc (char c) (chars cs) (34 ∷ [])) ∙ char_in c (chars cs ++ 34 ∷ []) h.0 ∙ chars_in cs h.1

one_token : (cs : List Char) → AreChars cs → tokens (quoted cs) ≡ string (meaning cs) ∷ []
unfolding lex punctuate
one_token cs h = rw (content_is cs [] h, chars_in cs h)

after_tokens : List Token → Option data_of.Data
after_tokens ts = option_and_then of_json (option_and_then (λ p. json.if_last p.0 p.1) (json.value 127 ts))

one_string : (s : List ℕ) → json.value 127 (string s ∷ []) ≡ Some (json.string s, [])
one_string s = value_is 127 (string s ∷ [])

-- serde_json reads a string as its characters
pub read_is : (cs : List Char) → AreChars cs → read (quoted cs) ≡ Some (data_of.string (meaning cs))
unfolding after_tokens
read_is cs h = ap after_tokens (one_token cs h) ∙ ap (λ v. option_and_then of_json (option_and_then (λ p. json.if_last p.0 p.1) v)) (one_string (meaning cs))

string_same : (s t : List ℕ) → Some (data_of.string s) ≡ Some (data_of.string t) → s ≡ t
string_same s t e = cc

-- so what was read of a part is what its string stands for
pub is_meaning : (p : Part) (t : List ℕ) → read p.bytes ≡ Some (data_of.string t) → IsMeaning p t
is_meaning p t e = λ cs h. string_same t (meaning cs) (sym e ∙ ap read h.is ∙ read_is cs h.is_tree)

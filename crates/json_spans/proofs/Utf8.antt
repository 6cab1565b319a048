-- A value of a text in UTF-8 is UTF-8, and so is what is left of it without its white space.
use Rattle.std.proofs.Common.{◌≡◌, ◌+◌, ◌-◌, ◌<◌, ◌≤◌, ℕ, zero, suc, Bool, true, false, List, [], ◌∷◌, ◌++◌, length, get_or, take, drop, refl, ap, ◌∙◌, sym, subst, arith, inl, inr, IsUtf8, append-nil, length-append, length-take, length-drop, get_or-drop}
use Rattle.std.proofs.lemmas.List.{get_or-take}
use Rattle.std.proofs.Math.Seq.{get_or-append_seam}
use Rattle.std.proofs.Math.Utf8.{scalars, encode, encodes, low_scalar}
use Rattle.std.proofs.lemmas.Bool.{and_parts, cases_lt}
use Rattle.std.proofs.lemmas.Bool.Decides.{nat_tests}
use Rattle.std.proofs.lemmas.Str.{IsUtf8-append, IsUtf8-nil, IsUtf8-encode, IsUtf8-between, IsUtf8-from_is_utf8, is_utf8-from_IsUtf8, IsCharBoundary-before_ascii, IsCharBoundary-after_ascii, encode_ascii, inside_one}
use Rattle.std.specs.Str.{is_utf8, IsCharBoundary}
use Rattle.json_spans.specs.Grammar.{Tree, word, number, text, empty_list, list, empty_object, object, spelling, chars, items, members, IsTree}
use Rattle.json_spans.specs.Parts.{is_value}
use Rattle.json_spans.specs.Squeeze.{next, drops, squeezed_from, squeezed}
use Rattle.json_spans.specs.declared.squeeze.Where.{Where}
use Rattle.json_spans.specs.declared.squeeze.Where.TheVariants as at
use Rattle.json_spans.proofs.Texts.{value_of}
use Rattle.json_spans.proofs.Tightness.{AreKept, kept_word, kept_number}

-- ---- a value begins and ends with ASCII

low_at : (s : List ℕ) (i : ℕ) → AreKept s → get_or s i 0 < 128
low_at [] i h = omega arith
low_at (x ∷ s) zero h = h.0.2
low_at (x ∷ s) (suc i) h = low_at s i h.1

last_is : (x y : ℕ) (w : List ℕ) → get_or (x ∷ (w ++ y ∷ [])) (length (x ∷ (w ++ y ∷ [])) - 1) 0 ≡ y
last_is x y w =
    let n : length (x ∷ (w ++ y ∷ [])) - 1 ≡ length (x ∷ w) = omega (arith, length-append w (y ∷ [])) in
    ap (λ k. get_or ((x ∷ w) ++ y ∷ []) k 0) n ∙ get_or-append_seam (x ∷ w) y [] 0

first_low : (v : Tree) → IsTree v → get_or (spelling v) 0 0 < 128
first_low (word s) h = low_at s 0 (kept_word s h)
first_low (number s) h = low_at s 0 (kept_number s h)
first_low (text cs) h = omega arith
first_low (empty_list w) h = omega arith
first_low (list is) h = omega arith
first_low (empty_object w) h = omega arith
first_low (object ms) h = omega arith

last_low : (v : Tree) → IsTree v → get_or (spelling v) (length (spelling v) - 1) 0 < 128
last_low (word s) h = low_at s (length s - 1) (kept_word s h)
last_low (number s) h = low_at s (length s - 1) (kept_number s h)
last_low (text cs) h = omega (arith, last_is 34 34 (chars cs))
last_low (empty_list w) h = omega (arith, last_is 91 93 w)
last_low (list is) h = omega (arith, last_is 91 93 (items is))
last_low (empty_object w) h = omega (arith, last_is 123 125 w)
last_low (object ms) h = omega (arith, last_is 123 125 (members ms))

value_low : (m : List ℕ) → is_value m ≡ true → (get_or m 0 0 < 128) × (get_or m (length m - 1) 0 < 128) × (0 < length m)
unfolding is_value
value_low [] h = absurd (cc)
value_low (x ∷ xs) h =
    let t = value_of (x ∷ xs) h in
    (subst (λ (m : List ℕ). get_or m 0 0 < 128) (sym t.1) (first_low t.0 t.2), subst (λ (m : List ℕ). get_or m (length m - 1) 0 < 128) (sym t.1) (last_low t.0 t.2), omega arith)

byte_of : (d : List ℕ) (from n i j : ℕ) → i < n → from + i ≡ j → get_or (take n (drop from d)) i 0 ≡ get_or d j 0
byte_of d from n i j below e = get_or-take n (drop from d) i 0 below ∙ get_or-drop from d i 0 ∙ ap (λ k. get_or d k 0) e

-- so a slice that is a value begins and ends between characters
pub slice_utf8 : (d : List ℕ) (from to : ℕ) → is_utf8 d ≡ true → to ≤ length d → is_value (take (to - from) (drop from d)) ≡ true → is_utf8 (take (to - from) (drop from d)) ≡ true
slice_utf8 d from to u within h =
    let low = value_low (take (to - from) (drop from d)) h in
    let long : length (take (to - from) (drop from d)) ≡ to - from = length-take (to - from) (drop from d) ∙ omega (arith, length-drop from d) in
    let some : from < to = omega (arith, low.2) in
    let first : get_or d from 0 < 128 = omega (arith, low.0, byte_of d from (to - from) 0 from (omega arith) (omega arith)) in
    let end : get_or (take (to - from) (drop from d)) (to - from - 1) 0 < 128 = subst (λ (n : ℕ). get_or (take (to - from) (drop from d)) (n - 1) 0 < 128) long low.1 in
    let last : get_or d (to - 1) 0 < 128 = omega (arith, end, byte_of d from (to - from) (to - from - 1) (to - 1) (omega arith) (omega arith)) in
    let text = IsUtf8-from_is_utf8 d u in
    let begins : IsCharBoundary d from = IsCharBoundary-before_ascii d from (omega arith) first in
    let behind : to - 1 + 1 ≡ to = omega arith in
    let ends : IsCharBoundary d to = subst (IsCharBoundary d) behind (IsCharBoundary-after_ascii d (to - 1) text (omega arith) last) in
    is_utf8-from_IsUtf8 _ (IsUtf8-between d from to text (omega arith) begins ends)

-- ---- what is left without white space

ascii_then : (x : ℕ) (xs : List ℕ) → x < 128 → IsUtf8 xs → IsUtf8 (x ∷ xs)
ascii_then x xs low u = IsUtf8-append (x ∷ []) xs (subst IsUtf8 (encode_ascii x low) (IsUtf8-encode x (low_scalar x (omega arith)))) u

-- where the byte behind these stands
abbrev behind : Where → List ℕ → Where
behind w [] = w
behind w (x ∷ xs) = behind (next w x) xs

high_stays : (w : Where) (x : ℕ) → 128 ≤ x → drops w x ≡ false
high_stays at.Outside x h = grind (arith, nat_tests)
high_stays at.Inside x h = refl
high_stays at.Escaped x h = refl

high_stay : (w : Where) (xs rest : List ℕ) → ((k : ℕ) → k < length xs → 128 ≤ get_or xs k 0) → squeezed_from w (xs ++ rest) ≡ xs ++ squeezed_from (behind w xs) rest
unfolding squeezed_from
high_stay w [] rest h = refl
high_stay w (x ∷ xs) rest h =
    let here : 128 ≤ x = h 0 (omega arith) in
    rw (high_stays w x here) (ap (λ l. x ∷ l) (high_stay (next w x) xs rest (λ k below. h (suc k) (omega arith))))

high_bytes : (c : ℕ) → 128 ≤ c → (k : ℕ) → k < length (encode c) → 128 ≤ get_or (encode c) k 0
high_bytes c big k below = elim (cases_lt (get_or (encode c) k 0) 128) [
  | inl low ↦ absurd (omega (arith, inside_one c [] (encode c) k (sym (append-nil _)) below low))
  | inr h ↦ h
]

ascii_step : (b : Bool) (w : Where) (c : ℕ) (xs : List ℕ) → drops w c ≡ b → c < 128 → IsUtf8 (squeezed_from (next w c) xs) → IsUtf8 (squeezed_from w (c ∷ xs))
unfolding squeezed_from
ascii_step true w c xs e low u = rw e u
ascii_step false w c xs e low u = rw e (ascii_then c (squeezed_from (next w c) xs) low u)

all_stay : (cs : List ℕ) (w : Where) → scalars cs ≡ true → IsUtf8 (squeezed_from w (encodes cs))
unfolding squeezed_from
all_stay [] w e = IsUtf8-nil
all_stay (c ∷ cs) w e =
    let ok = and_parts _ _ e in
    elim (cases_lt c 128) [
      | inl low ↦ rw (encode_ascii c low) (ascii_step (drops w c) w c (encodes cs) refl low (all_stay cs (next w c) ok.1))
      | inr big ↦ rw (high_stay w (encode c) (encodes cs) (high_bytes c big)) (IsUtf8-append (encode c) _ (IsUtf8-encode c ok.0) (all_stay cs (behind w (encode c)) ok.1))
    ]

pub squeezed_utf8 : (bytes : List ℕ) → is_utf8 bytes ≡ true → IsUtf8 (squeezed bytes)
squeezed_utf8 bytes e = let u = IsUtf8-from_is_utf8 bytes e in subst (λ (l : List ℕ). IsUtf8 (squeezed l)) u.1.1 (all_stay u.0 at.Outside u.1.0)

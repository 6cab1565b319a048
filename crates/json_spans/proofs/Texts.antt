-- A whole text: white space, one value, white space.
use Rattle.std.proofs.Common.{◌≡◌, ℕ, suc, ◌+◌, ◌-◌, ◌<◌, ◌≤◌, Bool, true, false, cond, ◌&&◌, not, ◌==◌, List, [], ◌∷◌, ◌++◌, length, get_or, drop, take, refl, ap, ◌∙◌, sym, arith, inl, inr, length-append, Ok, Err}
use Rattle.std.proofs.lemmas.List.{append_assoc, drop_more, drop_all}
use Rattle.std.proofs.lemmas.Bool.Decides.{nat_tests}
use Rattle.std.proofs.lemmas.Bool.{eqb-true}
use Rattle.json_spans.specs.Bytes.{is_space, is_digit}
use Rattle.json_spans.specs.Grammar.{Tree, word, number, text, empty_list, list, empty_object, object, IsTree, IsMinus, IsWhole, AreSpaces, spelling, depth}
use Rattle.json_spans.specs.Machine.{Outcome, ended, stopped, too_deep, run, value_at, as_result}
use Rattle.json_spans.specs.Parts.{is_value, ends_at, space_len, IsText}
use Rattle.json_spans.specs.Cut.{at_the_end, and_then_the_end, whole}
use Rattle.json_spans.specs.declared.fault.JsonFault.{JsonFault}
use Rattle.json_spans.specs.declared.table.Mode.TheVariants as mode
use Rattle.json_spans.proofs.Forward.{IsOver, IsOver-spaces, value_read, value_begins, holds, digit_bounds}
use Rattle.json_spans.proofs.Backward.{Headed, spaces_of, value_back}

pub space_len-space : (d : List ℕ) (i : ℕ) → i < length d → is_space (get_or d i 0) ≡ true → space_len (drop i d) ≡ suc (space_len (drop (i + 1) d))
unfolding space_len
space_len-space d i h e = ap space_len (drop_more d i 0 h) ∙ rw e

pub space_len-other : (d : List ℕ) (i : ℕ) → i < length d → is_space (get_or d i 0) ≡ false → space_len (drop i d) ≡ 0
unfolding space_len
space_len-other d i h e = ap space_len (drop_more d i 0 h) ∙ rw e

pub space_len-end : (d : List ℕ) (i : ℕ) → length d ≤ i → space_len (drop i d) ≡ 0
unfolding space_len
space_len-end d i h = ap space_len (drop_all i d h)

abbrev pub NoSpace : List ℕ → Type 0
NoSpace xs = Headed (λ x. is_space x ≡ false) xs

pub space_len-append : (w r : List ℕ) → AreSpaces w → NoSpace r → space_len (w ++ r) ≡ length w
unfolding space_len
space_len-append [] [] h o = refl
space_len-append [] (x ∷ r) h o = rw o
space_len-append (x ∷ w) r h o = rw (holds h.0) (ap suc (space_len-append w r h.1 o))

pub drop_front : (w r : List ℕ) → drop (length w) (w ++ r) ≡ r
drop_front [] r = refl
drop_front (x ∷ w) r = drop_front w r

pub take_front : (w r : List ℕ) → take (length w) (w ++ r) ≡ w
take_front [] r = refl
take_front (x ∷ w) r = ap (λ z. x ∷ z) (take_front w r)

true_when : (n m : ℕ) → n ≡ m → (n == m) ≡ true
true_when n m e = grind (arith, nat_tests)

all_spaces : (r ws rest : List ℕ) → r ≡ ws ++ rest → AreSpaces ws → length ws ≡ length r → AreSpaces r
all_spaces r ws [] is h e = rw is (subst_spaces ws h)
  where
    subst_spaces : (ws : List ℕ) → AreSpaces ws → AreSpaces (ws ++ [])
    subst_spaces [] h = tt
    subst_spaces (x ∷ ws) h = (h.0, subst_spaces ws h.1)
all_spaces r ws (x ∷ rest) is h e = absurd (omega (arith, ap length is, length-append ws (x ∷ rest)))

pub spaces_only : (r : List ℕ) → space_len r ≡ length r → AreSpaces r
spaces_only r e =
    let w = spaces_of r in
    let n : space_len r ≡ length w.ws = ap space_len w.is ∙ space_len-append w.ws w.rest w.are w.over in
    all_spaces r w.ws w.rest w.is w.are (sym n ∙ e)

pub nil : (w : List ℕ) → w ++ [] ≡ w
nil [] = refl
nil (x ∷ w) = ap (λ z. x ∷ z) (nil w)

ended_same : (p q : ℕ) → ended p ≡ ended q → p ≡ q
ended_same p q e = cc

pub end_at : (bytes : List ℕ) (to : ℕ) → to + space_len (drop to bytes) ≡ length bytes → at_the_end bytes to ≡ ended to
end_at bytes to e = rw e (same (length bytes))
  where
    same : (n : ℕ) → cond (n == n) (ended to) (stopped n) ≡ ended to
    same n = rw (true_when n n refl)

pub no_suffix : (r : List ℕ) → length r ≡ 0 → r ≡ []
no_suffix [] e = refl
no_suffix (x ∷ r) e = absurd (omega arith)

-- ---- a value's first byte is no white space

digit_no_space : (x : ℕ) → is_digit x ≡ true → is_space x ≡ false
digit_no_space x e = let r = digit_bounds x e in grind (arith, nat_tests)

number_no_space : (i w r : List ℕ) → IsMinus i → IsWhole w → NoSpace (i ++ (w ++ r))
number_no_space i w r (inr h) hw = rw h refl
number_no_space i [] r (inl h) hw = absurd hw
number_no_space i (x ∷ w) r (inl h) (inl hw) = rw (h, hw.0) refl
number_no_space i (x ∷ w) r (inl h) (inr hw) = rw h (digit_no_space x (holds hw.1))

pub value_no_space : (v : Tree) (r : List ℕ) → IsTree v → NoSpace (spelling v ++ r)
value_no_space (word w) r (inl h) = rw h refl
value_no_space (word w) r (inr (inl h)) = rw h refl
value_no_space (word w) r (inr (inr h)) = rw h refl
value_no_space (number x) r h =
    let apart : (h.minus ++ (h.whole ++ (h.fraction ++ h.exponent))) ++ r ≡ h.minus ++ (h.whole ++ ((h.fraction ++ h.exponent) ++ r)) = simp append_assoc in
    rw (h.is, apart) (number_no_space h.minus h.whole ((h.fraction ++ h.exponent) ++ r) h.is_minus h.is_whole)
value_no_space (text cs) r h = refl
value_no_space (empty_list w) r h = refl
value_no_space (list is) r h = refl
value_no_space (empty_object w) r h = refl
value_no_space (object ms) r h = refl

pub spaces_over : (w : List ℕ) → AreSpaces w → IsOver w
spaces_over w h = rw (← nil w) (IsOver-spaces w [] h tt)

-- a value is read to its end
pub value_forth : (p : ℕ) (v : Tree) (r : List ℕ) → IsTree v → depth v ≤ 127 → IsOver r → value_at p (spelling v ++ r) ≡ ended (p + length (spelling v))
value_forth p v r h d o =
    let n : p + length (spelling v ++ r) - length r ≡ p + length (spelling v) = omega (arith, length-append (spelling v) r) in
    value_read 127 (p + length (spelling v ++ r)) [] mode.Value (value_begins []) v r h (omega arith) o ∙ ap ended n

-- each JSON text is read to the end of its value
pub whole_forth : (bytes before : List ℕ) (v : Tree) (after : List ℕ) → IsText bytes before v after → (space_len bytes ≡ length before) × (whole bytes ≡ ended (length before + length (spelling v)))
whole_forth bytes before v after t =
    let j = t.json in
    let skip : space_len bytes ≡ length before = ap space_len j.is ∙ space_len-append before (spelling v ++ after) j.is_before (value_no_space v after j.is_tree) in
    let left : drop (length before) bytes ≡ spelling v ++ after = ap (drop (length before)) j.is ∙ drop_front before (spelling v ++ after) in
    let to : value_at (length before) (drop (length before) bytes) ≡ ended (length before + length (spelling v)) =
    ap (value_at (length before)) left ∙ value_forth (length before) v after j.is_tree t.levels (spaces_over after j.is_after) in
    let split : bytes ≡ (before ++ spelling v) ++ after = j.is ∙ sym (append_assoc before (spelling v) after) in
    let q : length (before ++ spelling v) ≡ length before + length (spelling v) = length-append before (spelling v) in
    let rest : drop (length before + length (spelling v)) bytes ≡ after = ap (λ k. drop k bytes) (sym q) ∙ ap (drop (length (before ++ spelling v))) split ∙ drop_front (before ++ spelling v) after in
    let all : space_len after ≡ length after = ap space_len (sym (nil after)) ∙ space_len-append after [] j.is_after tt in
    let n : length bytes ≡ length before + length (spelling v) + length after = ap length split ∙ length-append (before ++ spelling v) after ∙ ap (λ k. k + length after) q in
    let end : at_the_end bytes (length before + length (spelling v)) ≡ ended (length before + length (spelling v)) =
    end_at bytes (length before + length (spelling v)) (ap (λ r. length before + length (spelling v) + space_len r) rest ∙ ap (λ k. length before + length (spelling v) + k) all ∙ sym n) in
    (skip, ap (λ k. and_then_the_end bytes (value_at k (drop k bytes))) skip ∙ ap (and_then_the_end bytes) to ∙ end)

-- ---- and back

-- where a whole text is read to
record ReadTo (bytes : List ℕ) (to : ℕ) : Type 0 where
  value : value_at (space_len bytes) (drop (space_len bytes) bytes) ≡ ended to
  end : to + space_len (drop to bytes) ≡ length bytes

read_to_end : (bytes : List ℕ) (to q : ℕ) (b : Bool) → (q + space_len (drop q bytes) == length bytes) ≡ b → value_at (space_len bytes) (drop (space_len bytes) bytes) ≡ ended q
    → cond b (ended q) (stopped (q + space_len (drop q bytes))) ≡ ended to → ReadTo bytes to
read_to_end bytes to q true hb o h =
    let same : q ≡ to = cc in
    record { value = o ∙ h; end = ap (λ q. q + space_len (drop q bytes)) (sym same) ∙ eqb-true (q + space_len (drop q bytes)) (length bytes) hb }
read_to_end bytes to q false hb o h = absurd (cc)

read_to_by : (bytes : List ℕ) (to : ℕ) (o : Outcome) → value_at (space_len bytes) (drop (space_len bytes) bytes) ≡ o → and_then_the_end bytes o ≡ ended to → ReadTo bytes to
read_to_by bytes to (ended q) e h = read_to_end bytes to q _ refl e h
read_to_by bytes to (stopped q) e h = absurd (cc)
read_to_by bytes to (too_deep q) e h = absurd (cc)

read_to : (bytes : List ℕ) (to : ℕ) → whole bytes ≡ ended to → ReadTo bytes to
read_to bytes to h = read_to_by bytes to _ refl h

-- what was read is a JSON text
pub record WholeBack (bytes : List ℕ) (to : ℕ) : Type 0 where
  pub before : List ℕ
  pub v : Tree
  pub after : List ℕ
  pub is : IsText bytes before v after
  pub from_is : space_len bytes ≡ length before
  pub to_is : to ≡ length before + length (spelling v)

back_from : (bytes ws : List ℕ) (x : ℕ) (xs : List ℕ) (to : ℕ) → bytes ≡ ws ++ x ∷ xs → AreSpaces ws → is_space x ≡ false → space_len bytes ≡ length ws → value_at (length ws) (x ∷ xs) ≡ ended to
    → to + space_len (drop to bytes) ≡ length bytes → WholeBack bytes to
back_from bytes ws x xs to is are over n h end =
    let t = value_back 127 (length ws + length (x ∷ xs)) to x xs over h in
    let split : bytes ≡ (ws ++ spelling t.v) ++ t.rest = is ∙ ap (λ z. ws ++ z) t.is ∙ sym (append_assoc ws (spelling t.v) t.rest) in
    let size : length (x ∷ xs) ≡ length (spelling t.v) + length t.rest = ap length t.is ∙ length-append (spelling t.v) t.rest in
    let ends : length ws + length (x ∷ xs) - length t.rest ≡ to = ended_same _ _ t.goes in
    let to_is : to ≡ length ws + length (spelling t.v) = omega arith in
    let q : length (ws ++ spelling t.v) ≡ to = length-append ws (spelling t.v) ∙ sym to_is in
    let rest : drop to bytes ≡ t.rest = ap (λ k. drop k bytes) (sym q) ∙ ap (drop (length (ws ++ spelling t.v))) split ∙ drop_front (ws ++ spelling t.v) t.rest in
    let total : length bytes ≡ to + length t.rest = ap length split ∙ length-append (ws ++ spelling t.v) t.rest ∙ ap (λ k. k + length t.rest) q in
    let all : space_len t.rest ≡ length t.rest = omega (arith, ap space_len rest) in
    record {
      before = ws;
      v = t.v;
      after = t.rest;
      is = record { json = record { is = is ∙ ap (λ z. ws ++ z) t.is; is_before = are; is_tree = t.is_tree; is_after = spaces_only t.rest all }; levels = omega (arith, t.fits) };
      from_is = n;
      to_is = to_is;
    }

back_by : (bytes ws rest : List ℕ) (to : ℕ) → bytes ≡ ws ++ rest → AreSpaces ws → NoSpace rest → space_len bytes ≡ length ws → value_at (length ws) rest ≡ ended to
    → to + space_len (drop to bytes) ≡ length bytes → WholeBack bytes to
unfolding run
back_by bytes ws [] to is are over n h end = absurd (cc)
back_by bytes ws (x ∷ xs) to is are over n h end = back_from bytes ws x xs to is are over n h end

pub whole_back : (bytes : List ℕ) (to : ℕ) → whole bytes ≡ ended to → WholeBack bytes to
whole_back bytes to h =
    let r = read_to bytes to h in
    let w = spaces_of bytes in
    let n : space_len bytes ≡ length w.ws = ap space_len w.is ∙ space_len-append w.ws w.rest w.are w.over in
    let left : drop (length w.ws) bytes ≡ w.rest = ap (drop (length w.ws)) w.is ∙ drop_front w.ws w.rest in
    back_by bytes w.ws w.rest to w.is w.are w.over n (ap (value_at (length w.ws)) (sym left) ∙ ap (λ k. value_at k (drop k bytes)) (sym n) ∙ r.value) r.end

-- ---- one value alone

valid_by : (xs : List ℕ) → NoSpace xs → 0 < length xs → value_at 0 xs ≡ ended (length xs) → is_value xs ≡ true
unfolding is_value
valid_by [] o some h = absurd (omega arith)
valid_by (x ∷ xs) o some h = rw (o, h) (true_when (suc (length xs)) (suc (length xs)) refl)

some_bytes : (v : Tree) → IsTree v → (xs : List ℕ) → xs ≡ spelling v → value_at 0 xs ≡ ended (length xs) → 0 < length xs
unfolding run
some_bytes v h [] is e = absurd (cc)
some_bytes v h (x ∷ xs) is e = omega arith

-- the spelling of a value is one value
pub is_value-spelling : (v : Tree) → IsTree v → depth v ≤ 127 → is_value (spelling v) ≡ true
is_value-spelling v h d =
    let none : spelling v ++ [] ≡ spelling v = nil (spelling v) in
    let read : value_at 0 (spelling v) ≡ ended (length (spelling v)) = ap (value_at 0) (sym none) ∙ value_forth 0 v [] h d tt ∙ ap ended (omega arith) in
    let front : NoSpace (spelling v) = rw none at (value_no_space v [] h) in
    valid_by (spelling v) front (some_bytes v h (spelling v) refl read) read

-- and what is one value is the spelling of one
pub value_of : (bytes : List ℕ) → is_value bytes ≡ true → (v : Tree) × (bytes ≡ spelling v) × IsTree v × (depth v ≤ 127)
unfolding is_value
value_of [] h = absurd (cc)
value_of (x ∷ xs) h = by_tests (is_space x) refl (value_at 0 (x ∷ xs)) refl h
  where
    by_rest : (v : Tree) (rest : List ℕ) → x ∷ xs ≡ spelling v ++ rest → length rest ≡ 0 → IsTree v → depth v + 0 ≤ 127 → (v : Tree) × (x ∷ xs ≡ spelling v) × IsTree v × (depth v ≤ 127)
    by_rest v rest is e t d = (v, is ∙ ap (λ r. spelling v ++ r) (no_suffix rest e) ∙ nil (spelling v), t, omega arith)

    by_tests : (b : Bool) → is_space x ≡ b → (o : Outcome) → value_at 0 (x ∷ xs) ≡ o → (not b && ends_at o (suc (length xs))) ≡ true → (v : Tree) × (x ∷ xs ≡ spelling v) × IsTree v × (depth v ≤ 127)
    by_tests true e o f g = absurd (cc)
    by_tests false e (stopped p) f g = absurd (cc)
    by_tests false e (too_deep p) f g = absurd (cc)
    by_tests false e (ended p) f g =
        let p_is : p ≡ suc (length xs) = eqb-true p (suc (length xs)) g in
        let t = value_back 127 (0 + length (x ∷ xs)) p x xs e f in
        let here : 0 + length (x ∷ xs) - length t.rest ≡ p = ended_same _ _ t.goes in
        let size : length (x ∷ xs) ≡ length (spelling t.v) + length t.rest = ap length t.is ∙ length-append (spelling t.v) t.rest in
        by_rest t.v t.rest t.is (omega arith) t.is_tree t.fits

-- ---- what `cut` answers

pub slice_is : (bytes before mid after : List ℕ) (from to : ℕ) → bytes ≡ before ++ (mid ++ after) → from ≡ length before → to ≡ length before + length mid → take (to - from) (drop from bytes) ≡ mid
slice_is bytes before mid after from to is f t =
    let n : to - from ≡ length mid = omega arith in
    ap (λ k. take (to - from) (drop k bytes)) f ∙ ap (λ b. take (to - from) (drop (length before) b)) is ∙ ap (take (to - from)) (drop_front before (mid ++ after)) ∙ ap (λ k. take k (mid ++ after)) n ∙ take_front mid after

ended_when : (bytes : List ℕ) (to : ℕ) (o : Outcome) → as_result o ≡ Ok to → o ≡ ended to
ended_when bytes to (ended p) e = cc
ended_when bytes to (stopped p) e = cc
ended_when bytes to (too_deep p) e = cc

-- the value between two places
pub record Found (bytes : List ℕ) (from to : ℕ) : Type 0 where
  pub before : List ℕ
  pub v : Tree
  pub after : List ℕ
  pub is : IsText bytes before v after
  pub slice : take (to - from) (drop from bytes) ≡ spelling v
  pub from_is : from ≡ length before

pub found : (bytes : List ℕ) (from to : ℕ) → from ≡ space_len bytes → as_result (whole bytes) ≡ Ok to → Found bytes from to
found bytes from to e f =
    let w = whole_back bytes to (ended_when bytes to (whole bytes) f) in
    record { before = w.before; v = w.v; after = w.after; is = w.is; from_is = e ∙ w.from_is; slice = slice_is bytes w.before (spelling w.v) w.after from to w.is.json.is (e ∙ w.from_is) w.to_is }

pub not_refused : (bytes before : List ℕ) (v : Tree) (after : List ℕ) (e : JsonFault) → IsText bytes before v after → as_result (whole bytes) ≡ Err e → ⊥
not_refused bytes before v after e t h = let w = ap as_result (whole_forth bytes before v after t).1 in cc

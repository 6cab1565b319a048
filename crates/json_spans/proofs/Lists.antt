-- How the elements of a list are gone through.
use Rattle.std.proofs.Common.{◌≡◌, ◌⊎◌, ℕ, suc, ◌+◌, ◌-◌, ◌<◌, ◌≤◌, Bool, true, false, cond, ◌==◌, List, [], ◌∷◌, ◌++◌, length, get_or, drop, take, refl, ap, ◌∙◌, sym, arith, inl, inr, length-append, length-drop, get_or-drop, Ok, Err}
use Rattle.std.proofs.lemmas.List.{append_assoc, drop-drop}
use Rattle.std.proofs.lemmas.Bool.{eqb-true}
use Rattle.json_spans.specs.Bytes.{is_digit}
use Rattle.json_spans.specs.Grammar.{Tree, word, number, text, empty_list, list, empty_object, object, Items, one, more, IsTree, IsWord, IsMinus, IsWhole, IsNumber, AreItems, AreSpaces, spelling, items, depth, items_depth}
use Rattle.json_spans.specs.Machine.{Outcome, ended, value_at, as_result}
use Rattle.json_spans.specs.Parts.{Part, part, is_value, space_len, Spells, kind_of}
use Rattle.json_spans.specs.Inside.{items_at, elements_of}
use Rattle.json_spans.specs.declared.fault.JsonFault.{JsonFault}
use Rattle.json_spans.specs.declared.kind.Kind.TheVariants as kind
use Rattle.json_spans.proofs.Forward.{IsOver, IsOver-spaces, holds, digit_bounds}
use Rattle.json_spans.proofs.Texts.{NoSpace, space_len-append, drop_front, take_front, value_no_space, value_forth, value_of, is_value-spelling}

-- ---- one part, with the white space round it

pub record Front (d : List ℕ) (at : ℕ) (a : List ℕ) (t : Tree) (b r : List ℕ) (from to end : ℕ) : Type 0 where
  pub from_is : from ≡ at + length a
  pub to_is : to ≡ from + length (spelling t)
  pub end_is : end ≡ to + length b
  pub slice : take (to - from) (drop from d) ≡ spelling t
  pub left : drop end d ≡ r
  pub valid : is_value (take (to - from) (drop from d)) ≡ true

ok_same : (o : Outcome) (p q : ℕ) → o ≡ ended p → as_result o ≡ Ok q → q ≡ p
ok_same o p q e f = let g = ap as_result e in cc

pub front : (d : List ℕ) (at : ℕ) (a : List ℕ) (t : Tree) (b r : List ℕ) → drop at d ≡ a ++ (spelling t ++ (b ++ r)) → AreSpaces a → IsTree t → depth t ≤ 127 → AreSpaces b → NoSpace r → IsOver r
    → (from to end : ℕ) → from ≡ at + space_len (drop at d) → as_result (value_at from (drop from d)) ≡ Ok to → end ≡ to + space_len (drop to d) → Front d at a t b r from to end
front d at a t b r is ha ht levels hb hr over from to end f g h =
    let rest = b ++ r in
    let skip : space_len (drop at d) ≡ length a = ap space_len is ∙ space_len-append a (spelling t ++ rest) ha (value_no_space t rest ht) in
    let from_is : from ≡ at + length a = f ∙ ap (λ n. at + n) skip in
    let here : drop from d ≡ spelling t ++ rest = ap (λ n. drop n d) from_is ∙ sym (drop-drop (length a) at d) ∙ ap (drop (length a)) is ∙ drop_front a (spelling t ++ rest) in
    let to_is : to ≡ from + length (spelling t) = ok_same (value_at from (drop from d)) (from + length (spelling t)) to (ap (value_at from) here ∙ value_forth from t rest ht levels (IsOver-spaces b r hb over)) g in
    let behind : drop to d ≡ rest = ap (λ n. drop n d) to_is ∙ sym (drop-drop (length (spelling t)) from d) ∙ ap (drop (length (spelling t))) here ∙ drop_front (spelling t) rest in
    let end_is : end ≡ to + length b = h ∙ ap (λ n. to + n) (ap space_len behind ∙ space_len-append b r hb hr) in
    let left : drop end d ≡ r = ap (λ n. drop n d) end_is ∙ sym (drop-drop (length b) to d) ∙ ap (drop (length b)) behind ∙ drop_front b r in
    let n : to - from ≡ length (spelling t) = omega arith in
    let slice : take (to - from) (drop from d) ≡ spelling t = ap (λ k. take k (drop from d)) n ∙ ap (take (length (spelling t))) here ∙ take_front (spelling t) rest in
    record { from_is = from_is; to_is = to_is; end_is = end_is; slice = slice; left = left; valid = ap is_value slice ∙ is_value-spelling t ht levels }

-- a value that is spelled is read
pub value_there : (d : List ℕ) (at : ℕ) (a : List ℕ) (t : Tree) (r : List ℕ) → drop at d ≡ a ++ (spelling t ++ r) → AreSpaces a → IsTree t → depth t ≤ 127 → IsOver r
    → (e : JsonFault) → as_result (value_at (at + space_len (drop at d)) (drop (at + space_len (drop at d)) d)) ≡ Err e → ⊥
value_there d at a t r is ha ht levels over e f =
    let skip : space_len (drop at d) ≡ length a = ap space_len is ∙ space_len-append a (spelling t ++ r) ha (value_no_space t r ht) in
    let here : drop (at + space_len (drop at d)) d ≡ spelling t ++ r = ap (λ k. drop (at + k) d) skip ∙ sym (drop-drop (length a) at d) ∙ ap (drop (length a)) is ∙ drop_front a (spelling t ++ r) in
    let g = ap as_result (ap (value_at (at + space_len (drop at d))) here ∙ value_forth (at + space_len (drop at d)) t r ht levels over) in
    ok_err _ _ (sym g ∙ f)
  where
    ok_err : (p : ℕ) (e : JsonFault) → Ok p ≡ Err e → ⊥
    ok_err p e h = cc

-- what stands at a place
pub byte_there : (d : List ℕ) (i x : ℕ) (r : List ℕ) → drop i d ≡ x ∷ r → get_or d i 0 ≡ x
byte_there d i x r e = let z : i + 0 ≡ i = omega arith in ap (λ k. get_or d k 0) (sym z) ∙ sym (get_or-drop i d 0 0) ∙ ap (λ l. get_or l 0 0) e

pub within : (d : List ℕ) (i x : ℕ) (r : List ℕ) → drop i d ≡ x ∷ r → i < length d
within d i x r e = omega (arith, length-drop i d, ap length e)

-- ---- the value that a span has

pub spelled : (place : ℕ) (bytes : List ℕ) → is_value bytes ≡ true → (v : Tree) × Spells (part place bytes) v
spelled place bytes h = let t = value_of bytes h in (t.0, record { is = t.1; is_tree = t.2; levels = t.3 })

kind_list : (x : ℕ) (xs : List ℕ) → kind_of (x ∷ xs) ≡ kind.List → x ≡ 91
kind_list x xs h = eqb-true x 91 (by_tests _ _ _ _ _ _ refl refl refl refl refl refl h)
  where
    by_tests : (a b c d e f : Bool) → (x == 123) ≡ a → (x == 91) ≡ b → (x == 34) ≡ c → (x == 116) ≡ d → (x == 102) ≡ e → (x == 110) ≡ f
        → cond a kind.Object (cond b kind.List (cond c kind.Text (cond d kind.True (cond e kind.False (cond f kind.Null kind.Number))))) ≡ kind.List → (x == 91) ≡ true
    by_tests true b c d e f ha hb hc hd he hf g = absurd (cc)
    by_tests false true c d e f ha hb hc hd he hf g = hb
    by_tests false false true d e f ha hb hc hd he hf g = absurd (cc)
    by_tests false false false true e f ha hb hc hd he hf g = absurd (cc)
    by_tests false false false false true f ha hb hc hd he hf g = absurd (cc)
    by_tests false false false false false true ha hb hc hd he hf g = absurd (cc)
    by_tests false false false false false false ha hb hc hd he hf g = absurd (cc)

-- a number begins with a minus or a digit
pub record NumberHead (xs : List ℕ) : Type 0 where
  pub x : ℕ
  pub rest : List ℕ
  pub is : xs ≡ x ∷ rest
  pub can : (x ≡ 45) ⊎ (is_digit x ≡ true)

number_head : (i w r : List ℕ) → IsMinus i → IsWhole w → NumberHead (i ++ (w ++ r))
number_head i w r (inr h) hw = record { x = 45; rest = w ++ r; is = ap (λ i. i ++ (w ++ r)) h; can = inl refl }
number_head i [] r (inl h) hw = absurd hw
number_head i (x ∷ w) r (inl h) (inl hw) = record { x = x; rest = w ++ r; is = ap (λ i. i ++ (x ∷ (w ++ r))) h; can = inr (ap is_digit hw.0) }
number_head i (x ∷ w) r (inl h) (inr hw) = record { x = x; rest = w ++ r; is = ap (λ i. i ++ (x ∷ (w ++ r))) h; can = inr (holds hw.1) }

pub number_begins : (s : List ℕ) → IsNumber s → NumberHead s
number_begins s h = let t = number_head h.minus h.whole (h.fraction ++ h.exponent) h.is_minus h.is_whole in record { x = t.x; rest = t.rest; is = h.is ∙ t.is; can = t.can }

pub no_bracket : (x y : ℕ) → ((x ≡ 45) ⊎ (is_digit x ≡ true)) → (y ≡ 91) ⊎ (y ≡ 123) → x ≡ y → ⊥
no_bracket x y (inl h) (inl g) e = omega arith
no_bracket x y (inl h) (inr g) e = omega arith
no_bracket x y (inr h) (inl g) e = let r = digit_bounds x h in omega arith
no_bracket x y (inr h) (inr g) e = let r = digit_bounds x h in omega arith

abbrev pub IsListTree : Tree → Type 0
IsListTree (word s) = ⊥
IsListTree (number s) = ⊥
IsListTree (text cs) = ⊥
IsListTree (empty_list w) = Unit {0}
IsListTree (list is) = Unit {0}
IsListTree (empty_object w) = ⊥
IsListTree (object ms) = ⊥

word_no_list : (w : List ℕ) → IsWord w → kind_of w ≡ kind.List → ⊥
word_no_list w (inl h) g = let k = ap kind_of h in cc
word_no_list w (inr (inl h)) g = let k = ap kind_of h in cc
word_no_list w (inr (inr h)) g = let k = ap kind_of h in cc

list_tree : (v : Tree) → IsTree v → kind_of (spelling v) ≡ kind.List → IsListTree v
list_tree (word w) h g = word_no_list w h g
list_tree (number s) h g = let t = number_begins s h in no_bracket t.x 91 t.can (inl refl) (kind_list t.x t.rest (ap kind_of (sym t.is) ∙ g))
list_tree (text cs) h g = cc
list_tree (empty_list w) h g = tt
list_tree (list is) h g = tt
list_tree (empty_object w) h g = cc
list_tree (object ms) h g = cc

-- ---- the elements that are left

pub record ItemsLeft (d : List ℕ) (place at : ℕ) (done : List Part) (v : Tree) : Type 0 where
  pub left : Items
  pub are : AreItems left
  pub levels : items_depth left ≤ 126
  pub bytes : drop at d ≡ items left ++ 93 ∷ []
  pub parts : elements_of place v ≡ done ++ items_at (place + at) left

-- at the beginning
first_by : (d : List ℕ) (place first : ℕ) (v : Tree) → Spells (part place d) v → IsListTree v → first ≡ 1 + space_len (drop 1 d) → (get_or d first 0 ≡ 93 → ⊥) → ItemsLeft d place 1 [] v
first_by d place first (word s) h l f ne = absurd l
first_by d place first (number s) h l f ne = absurd l
first_by d place first (text cs) h l f ne = absurd l
first_by d place first (empty_object w) h l f ne = absurd l
first_by d place first (object ms) h l f ne = absurd l
first_by d place first (list is) h l f ne = record { left = is; are = h.is_tree; levels = omega (arith, h.levels); bytes = ap (drop 1) h.is; parts = refl }
first_by d place first (empty_list w) h l f ne =
    let behind : drop 1 d ≡ w ++ 93 ∷ [] = ap (drop 1) h.is in
    let n : first ≡ 1 + length w = f ∙ ap (λ k. 1 + k) (ap space_len behind ∙ space_len-append w (93 ∷ []) h.is_tree refl) in
    let there : drop first d ≡ 93 ∷ [] = ap (λ k. drop k d) n ∙ sym (drop-drop (length w) 1 d) ∙ ap (drop (length w)) behind ∙ drop_front w (93 ∷ []) in
    absurd (ne (byte_there d first 93 [] there))

pub first_items : (d : List ℕ) (place first : ℕ) → kind_of d ≡ kind.List → first ≡ 1 + space_len (drop 1 d) → (get_or d first 0 ≡ 93 → ⊥) → (v : Tree) → Spells (part place d) v → ItemsLeft d place 1 [] v
first_items d place first k f ne v h = first_by d place first v h (list_tree v h.is_tree (ap kind_of (sym h.is) ∙ k)) f ne

pub byte_at : (d : List ℕ) (i : ℕ) (r : List ℕ) → drop i d ≡ r → get_or d i 0 ≡ get_or r 0 0
byte_at d i r e = let z : i + 0 ≡ i = omega arith in ap (λ k. get_or d k 0) (sym z) ∙ sym (get_or-drop i d 0 0) ∙ ap (λ l. get_or l 0 0) e

no_close_word : (w r : List ℕ) → IsWord w → get_or (w ++ r) 0 0 ≡ 93 → ⊥
no_close_word w r (inl h) e = let k = ap (λ w. get_or (w ++ r) 0 0) h in omega arith
no_close_word w r (inr (inl h)) e = let k = ap (λ w. get_or (w ++ r) 0 0) h in omega arith
no_close_word w r (inr (inr h)) e = let k = ap (λ w. get_or (w ++ r) 0 0) h in omega arith

no_close_number : (x : ℕ) → ((x ≡ 45) ⊎ (is_digit x ≡ true)) → x ≡ 93 → ⊥
no_close_number x (inl h) e = omega arith
no_close_number x (inr h) e = let r = digit_bounds x h in omega arith

-- no value begins with a closing bracket
no_close : (t : Tree) (r : List ℕ) → IsTree t → get_or (spelling t ++ r) 0 0 ≡ 93 → ⊥
no_close (word w) r h e = no_close_word w r h e
no_close (number s) r h e = let n = number_begins s h in no_close_number n.x n.can (sym (ap (λ s. get_or (s ++ r) 0 0) n.is) ∙ e)
no_close (text cs) r h e = omega arith
no_close (empty_list w) r h e = omega arith
no_close (list is) r h e = omega arith
no_close (empty_object w) r h e = omega arith
no_close (object ms) r h e = omega arith

at_value : (d : List ℕ) (first : ℕ) (a : List ℕ) (t : Tree) (r : List ℕ) → drop 1 d ≡ a ++ (spelling t ++ r) → AreSpaces a → IsTree t → first ≡ 1 + space_len (drop 1 d) → get_or d first 0 ≡ 93 → ⊥
at_value d first a t r is ha ht f e =
    let n : first ≡ 1 + length a = f ∙ ap (λ k. 1 + k) (ap space_len is ∙ space_len-append a (spelling t ++ r) ha (value_no_space t r ht)) in
    let there : drop first d ≡ spelling t ++ r = ap (λ k. drop k d) n ∙ sym (drop-drop (length a) 1 d) ∙ ap (drop (length a)) is ∙ drop_front a (spelling t ++ r) in
    no_close t r ht (sym (byte_at d first (spelling t ++ r) there) ∙ e)

items_first : (d : List ℕ) (place first : ℕ) (is : Items) → Spells (part place d) (list is) → first ≡ 1 + space_len (drop 1 d) → get_or d first 0 ≡ 93 → ⊥
items_first d place first (one a t b) h f e =
    let apart : (a ++ (spelling t ++ b)) ++ 93 ∷ [] ≡ a ++ (spelling t ++ (b ++ 93 ∷ [])) = simp append_assoc in
    at_value d first a t _ (ap (drop 1) h.is ∙ apart) h.is_tree.0 h.is_tree.1 f e
items_first d place first (more a t b is) h f e =
    let apart : (a ++ (spelling t ++ (b ++ 44 ∷ items is))) ++ 93 ∷ [] ≡ a ++ (spelling t ++ (b ++ 44 ∷ (items is ++ 93 ∷ []))) = simp append_assoc in
    at_value d first a t _ (ap (drop 1) h.is ∙ apart) h.is_tree.0 h.is_tree.1 f e

-- an empty list
empty_by : (d : List ℕ) (place first : ℕ) (v : Tree) → Spells (part place d) v → first ≡ 1 + space_len (drop 1 d) → get_or d first 0 ≡ 93 → [] ≡ elements_of place v
empty_by d place first (word s) h f e = refl
empty_by d place first (number s) h f e = refl
empty_by d place first (text cs) h f e = refl
empty_by d place first (empty_object w) h f e = refl
empty_by d place first (object ms) h f e = refl
empty_by d place first (empty_list w) h f e = refl
empty_by d place first (list is) h f e = absurd (items_first d place first is h f e)

pub empty_items : (d : List ℕ) (place first : ℕ) → first ≡ 1 + space_len (drop 1 d) → get_or d first 0 ≡ 93 → (v : Tree) → Spells (part place d) v → [] ≡ elements_of place v
empty_items d place first f e v h = empty_by d place first v h f e

list_within : (d a : List ℕ) (t : Tree) (r : List ℕ) → drop 1 d ≡ a ++ (spelling t ++ r) → length d ≡ suc (length (a ++ (spelling t ++ r))) → AreSpaces a → IsTree t → (1 + space_len (drop 1 d) < length d) × (1 ≤ length d)
list_within d a t r is total ha ht =
    let n : space_len (drop 1 d) ≡ length a = ap space_len is ∙ space_len-append a (spelling t ++ r) ha (value_no_space t r ht) in
    let some : 0 < length (spelling t) = spelling_some t ht in
    (omega (arith, length-append a (spelling t ++ r), length-append (spelling t) r), omega arith)
  where
    word_some : (w : List ℕ) → IsWord w → 0 < length w
    word_some w (inl h) = omega (arith, ap length h)
    word_some w (inr (inl h)) = omega (arith, ap length h)
    word_some w (inr (inr h)) = omega (arith, ap length h)

    spelling_some : (t : Tree) → IsTree t → 0 < length (spelling t)
    spelling_some (word w) h = word_some w h
    spelling_some (number s) h = let n = number_begins s h in omega (arith, ap length n.is)
    spelling_some (text cs) h = omega arith
    spelling_some (empty_list w) h = omega arith
    spelling_some (list is) h = omega arith
    spelling_some (empty_object w) h = omega arith
    spelling_some (object ms) h = omega arith

-- there is a byte behind a list's bracket's white space
first_within_by : (d : List ℕ) (place : ℕ) (v : Tree) → Spells (part place d) v → IsListTree v → (1 + space_len (drop 1 d) < length d) × (1 ≤ length d)
first_within_by d place (word s) h l = absurd l
first_within_by d place (number s) h l = absurd l
first_within_by d place (text cs) h l = absurd l
first_within_by d place (empty_object w) h l = absurd l
first_within_by d place (object ms) h l = absurd l
first_within_by d place (empty_list w) h l =
    let behind : drop 1 d ≡ w ++ 93 ∷ [] = ap (drop 1) h.is in
    let n : space_len (drop 1 d) ≡ length w = ap space_len behind ∙ space_len-append w (93 ∷ []) h.is_tree refl in
    let total : length d ≡ suc (length w + 1) = ap length h.is ∙ ap suc (length-append w (93 ∷ [])) in
    (omega arith, omega arith)
first_within_by d place (list (one a t b)) h l =
    let apart : (a ++ (spelling t ++ b)) ++ 93 ∷ [] ≡ a ++ (spelling t ++ (b ++ 93 ∷ [])) = simp append_assoc in
    list_within d a t (b ++ 93 ∷ []) (ap (drop 1) h.is ∙ apart) (ap length h.is ∙ ap (λ x. suc (length x)) apart) h.is_tree.0 h.is_tree.1
first_within_by d place (list (more a t b is)) h l =
    let apart : (a ++ (spelling t ++ (b ++ 44 ∷ items is))) ++ 93 ∷ [] ≡ a ++ (spelling t ++ (b ++ 44 ∷ (items is ++ 93 ∷ []))) = simp append_assoc in
    list_within d a t (b ++ 44 ∷ (items is ++ 93 ∷ [])) (ap (drop 1) h.is ∙ apart) (ap length h.is ∙ ap (λ x. suc (length x)) apart) h.is_tree.0 h.is_tree.1

pub first_within : (d : List ℕ) (place : ℕ) → is_value d ≡ true → kind_of d ≡ kind.List → (1 + space_len (drop 1 d) < length d) × (1 ≤ length d)
first_within d place h k = let v = spelled place d h in first_within_by d place v.0 v.1 (list_tree v.0 v.1.is_tree (ap kind_of (sym v.1.is) ∙ k))

-- ---- one element

pub record ItemRead (d : List ℕ) (place at : ℕ) (done : List Part) (v : Tree) (from to end : ℕ) : Type 0 where
  pub valid : is_value (take (to - from) (drop from d)) ≡ true
  pub within : end < length d
  pub more : get_or d end 0 ≡ 44 → ItemsLeft d place (end + 1) (done ++ part (place + from) (take (to - from) (drop from d)) ∷ []) v
  pub last : (get_or d end 0 ≡ 44 → ⊥) → done ++ part (place + from) (take (to - from) (drop from d)) ∷ [] ≡ elements_of place v
  pub some : length done < length (elements_of place v)

item_by : (d : List ℕ) (place at : ℕ) (done : List Part) (v : Tree) (is : Items) → AreItems is → items_depth is ≤ 126 → drop at d ≡ items is ++ 93 ∷ [] → elements_of place v ≡ done ++ items_at (place + at) is
    → (from to end : ℕ) → from ≡ at + space_len (drop at d) → as_result (value_at from (drop from d)) ≡ Ok to → end ≡ to + space_len (drop to d) → ItemRead d place at done v from to end
item_by d place at done v (one a t b) are levels is parts from to end f g h =
    let apart : (a ++ (spelling t ++ b)) ++ 93 ∷ [] ≡ a ++ (spelling t ++ (b ++ 93 ∷ [])) = simp append_assoc in
    let r = front d at a t b (93 ∷ []) (is ∙ apart) are.0 are.1 (omega arith) are.2 refl (refl, refl, refl) from to end f g h in
    let same : part (place + from) (take (to - from) (drop from d)) ≡ part (place + at + length a) (spelling t) = part_same _ _ _ _ (omega (arith, r.from_is)) r.slice in
    record {
      valid = r.valid;
      within = within d end 93 [] r.left;
      more = λ e. absurd (omega (arith, e, byte_there d end 93 [] r.left));
      last = λ ne. ap (λ p. done ++ p ∷ []) same ∙ sym parts;
      some = omega (arith, ap length parts, length-append done (items_at (place + at) (one a t b)));
    }
  where
    part_same : (p q : ℕ) (x y : List ℕ) → p ≡ q → x ≡ y → part p x ≡ part q y
    part_same p q x y e f = ap (λ p. part p x) e ∙ ap (part q) f
item_by d place at done v (more a t b is') are levels is parts from to end f g h =
    let apart : (a ++ (spelling t ++ (b ++ 44 ∷ items is'))) ++ 93 ∷ [] ≡ a ++ (spelling t ++ (b ++ 44 ∷ (items is' ++ 93 ∷ []))) = simp append_assoc in
    let r = front d at a t b (44 ∷ (items is' ++ 93 ∷ [])) (is ∙ apart) are.0 are.1 (omega arith) are.2 refl (refl, refl, refl) from to end f g h in
    let same : part (place + from) (take (to - from) (drop from d)) ≡ part (place + at + length a) (spelling t) = part_same _ _ _ _ (omega (arith, r.from_is)) r.slice in
    let here : place + (end + 1) ≡ place + at + length a + length (spelling t) + length b + 1 = omega (arith, r.from_is, r.to_is, r.end_is) in
    record {
      valid = r.valid;
      within = within d end 44 _ r.left;
      more = λ e. record {
        left = is';
        are = are.3;
        levels = omega arith;
        bytes = sym (drop-drop 1 end d) ∙ ap (drop 1) r.left;
        parts = parts ∙ ap (λ p. done ++ (p ∷ items_at (place + at + length a + length (spelling t) + length b + 1) is')) (sym same)
            ∙ ap (λ q. done ++ (part (place + from) (take (to - from) (drop from d)) ∷ items_at q is')) (sym here) ∙ sym (append_assoc done (part (place + from) (take (to - from) (drop from d)) ∷ []) (items_at (place + (end + 1)) is'));
      };
      last = λ ne. absurd (ne (byte_there d end 44 _ r.left));
      some = omega (arith, ap length parts, length-append done (items_at (place + at) (more a t b is')));
    }
  where
    part_same : (p q : ℕ) (x y : List ℕ) → p ≡ q → x ≡ y → part p x ≡ part q y
    part_same p q x y e f = ap (λ p. part p x) e ∙ ap (part q) f

pub item_read : (d : List ℕ) (place at : ℕ) (done : List Part) (v : Tree) → ItemsLeft d place at done v
    → (from to end : ℕ) → from ≡ at + space_len (drop at d) → as_result (value_at from (drop from d)) ≡ Ok to → end ≡ to + space_len (drop to d) → ItemRead d place at done v from to end
item_read d place at done v l from to end f g h = item_by d place at done v l.left l.are l.levels l.bytes l.parts from to end f g h

-- where elements are left, one can be read
pub item_there : (d : List ℕ) (place at : ℕ) (done : List Part) (v : Tree) → ItemsLeft d place at done v
    → (e : JsonFault) → as_result (value_at (at + space_len (drop at d)) (drop (at + space_len (drop at d)) d)) ≡ Err e → ⊥
item_there d place at done v l e f = by_items l.left l.are l.levels l.bytes
  where
    by_items : (is : Items) → AreItems is → items_depth is ≤ 126 → drop at d ≡ items is ++ 93 ∷ [] → ⊥
    by_items (one a t b) are levels is =
        let apart : (a ++ (spelling t ++ b)) ++ 93 ∷ [] ≡ a ++ (spelling t ++ (b ++ 93 ∷ [])) = simp append_assoc in
        value_there d at a t (b ++ 93 ∷ []) (is ∙ apart) are.0 are.1 (omega arith) (IsOver-spaces b (93 ∷ []) are.2 (refl, refl, refl)) e f
    by_items (more a t b is') are levels is =
        let apart : (a ++ (spelling t ++ (b ++ 44 ∷ items is'))) ++ 93 ∷ [] ≡ a ++ (spelling t ++ (b ++ 44 ∷ (items is' ++ 93 ∷ []))) = simp append_assoc in
        value_there d at a t (b ++ 44 ∷ (items is' ++ 93 ∷ [])) (is ∙ apart) are.0 are.1 (omega arith) (IsOver-spaces b (44 ∷ (items is' ++ 93 ∷ [])) are.2 (refl, refl, refl)) e f

pub items_within : (d : List ℕ) (place at : ℕ) (done : List Part) (v : Tree) → ItemsLeft d place at done v → at < length d
items_within d place at done v l = omega (arith, ap length l.bytes, length-append (items l.left) (93 ∷ []), length-drop at d)

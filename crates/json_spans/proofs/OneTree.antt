-- The grammar is read in one way: a text has one tree, and one white space on each side of it.
use Rattle.std.proofs.Common.{◌≡◌, ◌⊎◌, ℕ, ◌+◌, ◌-◌, Bool, true, false, List, [], ◌∷◌, ◌++◌, length, length-append, refl, ap, ◌∙◌, sym, arith, inl, inr}
use Rattle.std.proofs.lemmas.List.{append_assoc}
use Rattle.std.proofs.lemmas.Bool.{ne_eqb}
use Rattle.json_spans.specs.Bytes.{is_digit, is_high, is_short}
use Rattle.json_spans.specs.Grammar.{Char, plain, short, unit, pair, char, chars, quoted, IsChar, AreChars, AreSpaces, is_d, is_surrogate, IsWord, Tree, word, number, text, empty_list, list, empty_object, object, Items, one, more, Members, one_member, more_members, spelling, items, members, IsTree, AreItems, AreMembers, depth}
use Rattle.json_spans.specs.Parts.{space_len, kind_of}
use Rattle.json_spans.specs.OneWay.{ReadOneWay}
use Rattle.json_spans.specs.Machine.{run}
use Rattle.json_spans.specs.declared.table.Mode.TheVariants as mode
use Rattle.json_spans.specs.declared.kind.Kind.{Kind}
use Rattle.json_spans.specs.declared.kind.Kind.TheVariants as kind
use Rattle.json_spans.proofs.Forward.{value_read, value_begins, IsOver, IsOver-spaces, holds, digit_bounds}
use Rattle.json_spans.proofs.Texts.{NoSpace, space_len-append, value_no_space, spaces_over, nil}
use Rattle.json_spans.proofs.Lists.{number_begins}
use Rattle.json_spans.proofs.Completing.{same_back, same_front, ended_same}

-- ---- fronts of one list

split : (a r b s : List ℕ) → a ++ r ≡ b ++ s → length a ≡ length b → (a ≡ b) × (r ≡ s)
split a r b s e l =
    let n : length r ≡ length s = omega (arith, l, ap length e, length-append a r, length-append b s) in
    (same_front a r b s e n, same_back a r b s e n)

-- white space in front of what begins with none
spaces_one : (a r b s : List ℕ) → a ++ r ≡ b ++ s → AreSpaces a → AreSpaces b → NoSpace r → NoSpace s → (a ≡ b) × (r ≡ s)
spaces_one a r b s e ha hb hr hs = split a r b s e (sym (space_len-append a r ha hr) ∙ ap space_len e ∙ space_len-append b s hb hs)

-- a value in front of what no number goes on with
value_one : (v w : Tree) (r s : List ℕ) → spelling v ++ r ≡ spelling w ++ s → IsTree v → IsTree w → IsOver r → IsOver s → (spelling v ≡ spelling w) × (r ≡ s)
value_one v w r s e hv hw hr hs =
    let limit = depth v + depth w in
    let n = length (spelling v ++ r) in
    let f = value_read limit n [] mode.Value (value_begins []) v r hv (omega arith) hr in
    let g = value_read limit n [] mode.Value (value_begins []) w s hw (omega arith) hs in
    let ends = ended_same (n - length r) (n - length s) (sym f ∙ ap (run limit n mode.Value false []) e ∙ g) in
    split (spelling v) r (spelling w) s e (omega (arith, ends, ap length e, length-append (spelling v) r, length-append (spelling w) s))

tail_one : (x y : ℕ) (r s : List ℕ) → x ∷ r ≡ y ∷ s → r ≡ s
tail_one x y r s e = cc

head_one : (x y : ℕ) (r s : List ℕ) → x ∷ r ≡ y ∷ s → x ≡ y
head_one x y r s e = cc

both : (x y : ℕ) (r s : List ℕ) → x ∷ r ≡ y ∷ s → (x ≡ y) × (r ≡ s)
both x y r s e = (head_one x y r s e, tail_one x y r s e)

-- ---- characters

clash : {b : Bool} → b ≡ true → b ≡ false → ⊥
clash h g = cc

surrogate : (a b c d : ℕ) → is_d a ≡ true → is_high b ≡ true → a ≡ c → b ≡ d → is_surrogate c d ≡ false → ⊥
surrogate a b c d ha hb e f h = clash (yes (sym (ap is_d e) ∙ ha) (sym (ap is_high f) ∙ hb)) h
  where
    yes : is_d c ≡ true → is_high d ≡ true → is_surrogate c d ≡ true
    yes g k = rw (g, k)

not_u : (x : ℕ) → is_short x ≡ true → x ≡ 117 → ⊥
not_u x h e = clash h (ap is_short e)

-- four digits
four_one : (a b c d : ℕ) (r : List ℕ) (i j k l : ℕ) (s : List ℕ) → a ∷ b ∷ c ∷ d ∷ r ≡ i ∷ j ∷ k ∷ l ∷ s → (a ≡ i) × (b ≡ j) × (c ≡ k) × (d ≡ l) × (r ≡ s)
four_one a b c d r i j k l s e =
    let x = both a i (b ∷ c ∷ d ∷ r) (j ∷ k ∷ l ∷ s) e in
    let y = both b j (c ∷ d ∷ r) (k ∷ l ∷ s) x.1 in
    let z = both c k (d ∷ r) (l ∷ s) y.1 in
    let t = both d l r s z.1 in
    (x.0, y.0, z.0, t.0, t.1)

-- behind the backslash
escape_one : (r s : List ℕ) → 92 ∷ r ≡ 92 ∷ s → r ≡ s
escape_one r s e = tail_one 92 92 r s e

-- behind the backslash and `u`
code_one : (r s : List ℕ) → 92 ∷ 117 ∷ r ≡ 92 ∷ 117 ∷ s → r ≡ s
code_one r s e = tail_one 117 117 r s (tail_one 92 92 (117 ∷ r) (117 ∷ s) e)

not_plain : (x : ℕ) (r s : List ℕ) → IsChar (plain x) → x ∷ r ≡ 92 ∷ s → ⊥
not_plain x r s h e = h.1 (head_one x 92 r s e)

short_only : (x : ℕ) (r s : List ℕ) → is_short x ≡ true → 92 ∷ x ∷ r ≡ 92 ∷ 117 ∷ s → ⊥
short_only x r s h e = not_u x h (head_one x 117 r s (escape_one (x ∷ r) (117 ∷ s) e))

unit_only : (a b c d : ℕ) (r : List ℕ) (i j k l : ℕ) (s : List ℕ) → is_surrogate a b ≡ false → is_d i ≡ true → is_high j ≡ true → 92 ∷ 117 ∷ a ∷ b ∷ c ∷ d ∷ r ≡ 92 ∷ 117 ∷ i ∷ j ∷ k ∷ l ∷ s → ⊥
unit_only a b c d r i j k l s h hi hj e =
    let x = four_one a b c d r i j k l s (code_one (a ∷ b ∷ c ∷ d ∷ r) (i ∷ j ∷ k ∷ l ∷ s) e) in
    surrogate i j a b hi hj (sym x.0) (sym x.1) h

char_one : (c d : Char) (r s : List ℕ) → IsChar c → IsChar d → char c ++ r ≡ char d ++ s → (c ≡ d) × (r ≡ s)
char_one (plain x) (plain y) r s h g e = (ap plain (head_one x y r s e), tail_one x y r s e)
char_one (plain x) (short y) r s h g e = absurd (not_plain x r (y ∷ s) h e)
char_one (plain x) (unit a b c d) r s h g e = absurd (not_plain x r (117 ∷ a ∷ b ∷ c ∷ d ∷ s) h e)
char_one (plain x) (pair a b c d i j k l) r s h g e = absurd (not_plain x r (117 ∷ a ∷ b ∷ c ∷ d ∷ 92 ∷ 117 ∷ i ∷ j ∷ k ∷ l ∷ s) h e)
char_one (short x) (plain y) r s h g e = absurd (not_plain y s (x ∷ r) g (sym e))
char_one (short x) (short y) r s h g e = let t = both x y r s (escape_one (x ∷ r) (y ∷ s) e) in (ap short t.0, t.1)
char_one (short x) (unit a b c d) r s h g e = absurd (short_only x r (a ∷ b ∷ c ∷ d ∷ s) (holds h) e)
char_one (short x) (pair a b c d i j k l) r s h g e = absurd (short_only x r (a ∷ b ∷ c ∷ d ∷ 92 ∷ 117 ∷ i ∷ j ∷ k ∷ l ∷ s) (holds h) e)
char_one (unit a b c d) (plain y) r s h g e = absurd (not_plain y s (117 ∷ a ∷ b ∷ c ∷ d ∷ r) g (sym e))
char_one (unit a b c d) (short y) r s h g e = absurd (short_only y s (a ∷ b ∷ c ∷ d ∷ r) (holds g) (sym e))
char_one (unit a b c d) (unit i j k l) r s h g e =
    let t = four_one a b c d r i j k l s (code_one (a ∷ b ∷ c ∷ d ∷ r) (i ∷ j ∷ k ∷ l ∷ s) e) in
    (rw (t.0, t.1, t.2, t.3), t.4)
char_one (unit a b c d) (pair i j k l m n o p) r s h g e = absurd (unit_only a b c d r i j k l (92 ∷ 117 ∷ m ∷ n ∷ o ∷ p ∷ s) h.4 (holds g.0.0) (holds g.0.1) e)
char_one (pair a b c d i j k l) (plain y) r s h g e = absurd (not_plain y s (117 ∷ a ∷ b ∷ c ∷ d ∷ 92 ∷ 117 ∷ i ∷ j ∷ k ∷ l ∷ r) g (sym e))
char_one (pair a b c d i j k l) (short y) r s h g e = absurd (short_only y s (a ∷ b ∷ c ∷ d ∷ 92 ∷ 117 ∷ i ∷ j ∷ k ∷ l ∷ r) (holds g) (sym e))
char_one (pair a b c d i j k l) (unit m n o p) r s h g e = absurd (unit_only m n o p s a b c d (92 ∷ 117 ∷ i ∷ j ∷ k ∷ l ∷ r) g.4 (holds h.0.0) (holds h.0.1) (sym e))
char_one (pair a b c d i j k l) (pair a2 b2 c2 d2 i2 j2 k2 l2) r s h g e =
    let t = four_one a b c d (92 ∷ 117 ∷ i ∷ j ∷ k ∷ l ∷ r) a2 b2 c2 d2 (92 ∷ 117 ∷ i2 ∷ j2 ∷ k2 ∷ l2 ∷ s) (code_one _ _ e) in
    let u = four_one i j k l r i2 j2 k2 l2 s (code_one _ _ t.4) in
    (rw (t.0, t.1, t.2, t.3, u.0, u.1, u.2, u.3), u.4)

-- a quote ends a string, and begins no character
not_quote : (r s : List ℕ) → 92 ∷ r ≡ 34 ∷ s → ⊥
not_quote r s e = omega (arith, head_one 92 34 r s e)

no_quote : (c : Char) (r s : List ℕ) → IsChar c → char c ++ r ≡ 34 ∷ s → ⊥
no_quote (plain x) r s h e = h.0 (head_one x 34 r s e)
no_quote (short x) r s h e = not_quote _ s e
no_quote (unit a b c d) r s h e = not_quote _ s e
no_quote (pair a b c d i j k l) r s h e = not_quote _ s e

chars_one : (cs ds : List Char) (r s : List ℕ) → AreChars cs → AreChars ds → chars cs ++ 34 ∷ r ≡ chars ds ++ 34 ∷ s → (cs ≡ ds) × (r ≡ s)
chars_one [] [] r s h g e = (refl, tail_one 34 34 r s e)
chars_one [] (d ∷ ds) r s h g e = absurd (no_quote d (chars ds ++ 34 ∷ s) r g.0 (sym (append_assoc (char d) (chars ds) (34 ∷ s)) ∙ sym e))
chars_one (c ∷ cs) [] r s h g e = absurd (no_quote c (chars cs ++ 34 ∷ r) s h.0 (sym (append_assoc (char c) (chars cs) (34 ∷ r)) ∙ e))
chars_one (c ∷ cs) (d ∷ ds) r s h g e =
    let k = char_one c d (chars cs ++ 34 ∷ r) (chars ds ++ 34 ∷ s) h.0 g.0 (sym (append_assoc (char c) (chars cs) (34 ∷ r)) ∙ e ∙ append_assoc (char d) (chars ds) (34 ∷ s)) in
    let t = chars_one cs ds r s h.1 g.1 k.1 in
    (rw (k.0, t.0), t.1)

text_one : (cs ds : List Char) (r s : List ℕ) → AreChars cs → AreChars ds → quoted cs ++ r ≡ quoted ds ++ s → (cs ≡ ds) × (r ≡ s)
text_one cs ds r s h g e =
    chars_one cs ds r s h g (sym (append_assoc (chars cs) (34 ∷ []) r) ∙ tail_one 34 34 _ _ e ∙ append_assoc (chars ds) (34 ∷ []) s)

-- ---- a tree is of the sort that its first byte names

data Sort : Type 0 where
  a_word : Sort
  a_number : Sort
  a_text : Sort
  a_list : Sort
  an_object : Sort

sort_of : Kind → Sort
sort_of kind.Null = a_word
sort_of kind.True = a_word
sort_of kind.False = a_word
sort_of kind.Number = a_number
sort_of kind.Text = a_text
sort_of kind.List = a_list
sort_of kind.Object = an_object

abbrev sort : Tree → Sort
sort (word s) = a_word
sort (number s) = a_number
sort (text cs) = a_text
sort (empty_list w) = a_list
sort (list is) = a_list
sort (empty_object w) = an_object
sort (object ms) = an_object

number_kind : (x : ℕ) (xs : List ℕ) → (x ≡ 45) ⊎ (is_digit x ≡ true) → kind_of (x ∷ xs) ≡ kind.Number
number_kind x xs (inl h) = rw h refl
number_kind x xs (inr h) =
    let r = digit_bounds x h in
    rw (ne_eqb x 123 (λ e. omega arith), ne_eqb x 91 (λ e. omega arith), ne_eqb x 34 (λ e. omega arith), ne_eqb x 116 (λ e. omega arith), ne_eqb x 102 (λ e. omega arith), ne_eqb x 110 (λ e. omega arith))

word_sort : (w : List ℕ) → IsWord w → sort_of (kind_of w) ≡ a_word
unfolding sort_of
word_sort w (inl h) = ap (λ w. sort_of (kind_of w)) h
word_sort w (inr (inl h)) = ap (λ w. sort_of (kind_of w)) h
word_sort w (inr (inr h)) = ap (λ w. sort_of (kind_of w)) h

sort_is : (v : Tree) → IsTree v → sort_of (kind_of (spelling v)) ≡ sort v
unfolding sort_of
sort_is (word w) h = word_sort w h
sort_is (number s) h = let t = number_begins s h in ap (λ s. sort_of (kind_of s)) t.is ∙ ap sort_of (number_kind t.x t.rest t.can)
sort_is (text cs) h = refl
sort_is (empty_list w) h = refl
sort_is (list is) h = refl
sort_is (empty_object w) h = refl
sort_is (object ms) h = refl

same_sort : (v w : Tree) → IsTree v → IsTree w → spelling v ≡ spelling w → sort v ≡ sort w
same_sort v w hv hw e = sym (sort_is v hv) ∙ ap (λ s. sort_of (kind_of s)) e ∙ sort_is w hw

-- ---- no bracket is empty that has something in it

no_spaces : (a r b : List ℕ) → a ++ r ≡ b → AreSpaces a → AreSpaces b → NoSpace r → r ≡ []
no_spaces a r b e ha hb hr = (spaces_one a r b [] (e ∙ sym (nil b)) ha hb hr tt).1

spelled_some : (v : Tree) (r : List ℕ) → IsTree v → spelling v ++ r ≡ [] → ⊥
spelled_some (word w) r (inl h) e = let k : 116 ∷ 114 ∷ 117 ∷ 101 ∷ r ≡ [] = sym (ap (λ w. w ++ r) h) ∙ e in cc
spelled_some (word w) r (inr (inl h)) e = let k : 102 ∷ 97 ∷ 108 ∷ 115 ∷ 101 ∷ r ≡ [] = sym (ap (λ w. w ++ r) h) ∙ e in cc
spelled_some (word w) r (inr (inr h)) e = let k : 110 ∷ 117 ∷ 108 ∷ 108 ∷ r ≡ [] = sym (ap (λ w. w ++ r) h) ∙ e in cc
spelled_some (number s) r h e = let t = number_begins s h in let k : t.x ∷ (t.rest ++ r) ≡ [] = sym (ap (λ s. s ++ r) t.is) ∙ e in cc
spelled_some (text cs) r h e = cc
spelled_some (empty_list w) r h e = cc
spelled_some (list is) r h e = cc
spelled_some (empty_object w) r h e = cc
spelled_some (object ms) r h e = cc

items_some : (is : Items) (w : List ℕ) → AreItems is → AreSpaces w → items is ≡ w → ⊥
items_some (one a v b) w h g e = spelled_some v b h.1 (no_spaces a (spelling v ++ b) w e h.0 g (value_no_space v b h.1))
items_some (more a v b is) w h g e = spelled_some v (b ++ 44 ∷ items is) h.1 (no_spaces a (spelling v ++ (b ++ 44 ∷ items is)) w e h.0 g (value_no_space v (b ++ 44 ∷ items is) h.1))

members_some : (ms : Members) (w : List ℕ) → AreMembers ms → AreSpaces w → members ms ≡ w → ⊥
members_some (one_member a n b c v d) w h g e = let k = no_spaces a _ w e h.0 g refl in cc
members_some (more_members a n b c v d ms) w h g e = let k = no_spaces a _ w e h.0 g refl in cc

-- a comma is no white space
no_comma : (a b r : List ℕ) → a ≡ b ++ 44 ∷ r → AreSpaces a → AreSpaces b → ⊥
no_comma a b r e ha hb = let k = no_spaces b (44 ∷ r) a (sym e) hb ha refl in cc

-- ---- trees

-- the front of a list's element: white space, a value, and what is behind
item_one : (a b : List ℕ) (v w : Tree) (r s : List ℕ) → a ++ (spelling v ++ r) ≡ b ++ (spelling w ++ s) → AreSpaces a → AreSpaces b → IsTree v → IsTree w → IsOver r → IsOver s
    → (a ≡ b) × (spelling v ≡ spelling w) × (r ≡ s)
item_one a b v w r s e ha hb hv hw hr hs =
    let x = spaces_one a (spelling v ++ r) b (spelling w ++ s) e ha hb (value_no_space v r hv) (value_no_space w s hw) in
    let y = value_one v w r s x.1 hv hw hr hs in
    (x.0, y.0, y.1)

-- the front of an object's member: white space, a name, white space, a colon
name_one : (a : List ℕ) (n : List Char) (b r : List ℕ) (a2 : List ℕ) (n2 : List Char) (b2 r2 : List ℕ) → a ++ (quoted n ++ (b ++ 58 ∷ r)) ≡ a2 ++ (quoted n2 ++ (b2 ++ 58 ∷ r2))
    → AreSpaces a → AreSpaces a2 → AreChars n → AreChars n2 → AreSpaces b → AreSpaces b2 → (a ≡ a2) × (n ≡ n2) × (b ≡ b2) × (r ≡ r2)
name_one a n b r a2 n2 b2 r2 e ha ha2 hn hn2 hb hb2 =
    let x = spaces_one a (quoted n ++ (b ++ 58 ∷ r)) a2 (quoted n2 ++ (b2 ++ 58 ∷ r2)) e ha ha2 refl refl in
    let y = text_one n n2 (b ++ 58 ∷ r) (b2 ++ 58 ∷ r2) hn hn2 x.1 in
    let z = spaces_one b (58 ∷ r) b2 (58 ∷ r2) y.1 hb hb2 refl refl in
    (x.0, y.0, z.0, tail_one 58 58 r r2 z.1)

over_comma : (b r : List ℕ) → AreSpaces b → IsOver (b ++ 44 ∷ r)
over_comma b r h = IsOver-spaces b (44 ∷ r) h (refl, refl, refl)

comma_one : (a r b s : List ℕ) → a ++ 44 ∷ r ≡ b ++ 44 ∷ s → AreSpaces a → AreSpaces b → (a ≡ b) × (r ≡ s)
comma_one a r b s e ha hb = let x = spaces_one a (44 ∷ r) b (44 ∷ s) e ha hb refl refl in (x.0, tail_one 44 44 r s x.1)

closed : (x : ℕ) (r s : List ℕ) (o : ℕ) → o ∷ (r ++ x ∷ []) ≡ o ∷ (s ++ x ∷ []) → r ≡ s
closed x r s o e = same_front r (x ∷ []) s (x ∷ []) (tail_one o o _ _ e) refl

mutual
  tree_one : (v w : Tree) → IsTree v → IsTree w → spelling v ≡ spelling w → v ≡ w
  tree_one (word s) (word t) hv hw e = ap word e
  tree_one (number s) (number t) hv hw e = ap number e
  tree_one (text cs) (text ds) hv hw e = ap text (text_one cs ds [] [] hv hw (ap (λ z. z ++ []) e)).0
  tree_one (empty_list a) (empty_list b) hv hw e = ap empty_list (closed 93 a b 91 e)
  tree_one (empty_list a) (list js) hv hw e = absurd (items_some js a hw hv (sym (closed 93 a (items js) 91 e)))
  tree_one (list is) (empty_list b) hv hw e = absurd (items_some is b hv hw (closed 93 (items is) b 91 e))
  tree_one (list is) (list js) hv hw e = ap list (items_one is js hv hw (closed 93 (items is) (items js) 91 e))
  tree_one (empty_object a) (empty_object b) hv hw e = ap empty_object (closed 125 a b 123 e)
  tree_one (empty_object a) (object ns) hv hw e = absurd (members_some ns a hw hv (sym (closed 125 a (members ns) 123 e)))
  tree_one (object ms) (empty_object b) hv hw e = absurd (members_some ms b hv hw (closed 125 (members ms) b 123 e))
  tree_one (object ms) (object ns) hv hw e = ap object (members_one ms ns hv hw (closed 125 (members ms) (members ns) 123 e))
  tree_one v w hv hw e = let k = same_sort v w hv hw e in absurd (cc)

  items_one : (is js : Items) → AreItems is → AreItems js → items is ≡ items js → is ≡ js
  items_one (one a v b) (one a2 w b2) h g e =
      let x = item_one a a2 v w b b2 e h.0 g.0 h.1 g.1 (spaces_over b h.2) (spaces_over b2 g.2) in
      let t = tree_one v w h.1 g.1 x.1 in
      rw (x.0, t, x.2)
  items_one (one a v b) (more a2 w b2 js) h g e =
      let x = item_one a a2 v w b (b2 ++ 44 ∷ items js) e h.0 g.0 h.1 g.1 (spaces_over b h.2) (over_comma b2 (items js) g.2) in
      absurd (no_comma b b2 (items js) x.2 h.2 g.2)
  items_one (more a v b is) (one a2 w b2) h g e =
      let x = item_one a a2 v w (b ++ 44 ∷ items is) b2 e h.0 g.0 h.1 g.1 (over_comma b (items is) h.2) (spaces_over b2 g.2) in
      absurd (no_comma b2 b (items is) (sym x.2) g.2 h.2)
  items_one (more a v b is) (more a2 w b2 js) h g e =
      let x = item_one a a2 v w (b ++ 44 ∷ items is) (b2 ++ 44 ∷ items js) e h.0 g.0 h.1 g.1 (over_comma b (items is) h.2) (over_comma b2 (items js) g.2) in
      let t = tree_one v w h.1 g.1 x.1 in
      let y = comma_one b (items is) b2 (items js) x.2 h.2 g.2 in
      let r = items_one is js h.3 g.3 y.1 in
      rw (x.0, t, y.0, r)

  members_one : (ms ns : Members) → AreMembers ms → AreMembers ns → members ms ≡ members ns → ms ≡ ns
  members_one (one_member a n b c v d) (one_member a2 n2 b2 c2 w d2) h g e =
      let m = name_one a n b (c ++ (spelling v ++ d)) a2 n2 b2 (c2 ++ (spelling w ++ d2)) e h.0 g.0 h.1 g.1 h.2 g.2 in
      let x = item_one c c2 v w d d2 m.3 h.3 g.3 h.4 g.4 (spaces_over d h.5) (spaces_over d2 g.5) in
      let t = tree_one v w h.4 g.4 x.1 in
      rw (m.0, m.1, m.2, x.0, t, x.2)
  members_one (one_member a n b c v d) (more_members a2 n2 b2 c2 w d2 ns) h g e =
      let m = name_one a n b (c ++ (spelling v ++ d)) a2 n2 b2 (c2 ++ (spelling w ++ (d2 ++ 44 ∷ members ns))) e h.0 g.0 h.1 g.1 h.2 g.2 in
      let x = item_one c c2 v w d (d2 ++ 44 ∷ members ns) m.3 h.3 g.3 h.4 g.4 (spaces_over d h.5) (over_comma d2 (members ns) g.5) in
      absurd (no_comma d d2 (members ns) x.2 h.5 g.5)
  members_one (more_members a n b c v d ms) (one_member a2 n2 b2 c2 w d2) h g e =
      let m = name_one a n b (c ++ (spelling v ++ (d ++ 44 ∷ members ms))) a2 n2 b2 (c2 ++ (spelling w ++ d2)) e h.0 g.0 h.1 g.1 h.2 g.2 in
      let x = item_one c c2 v w (d ++ 44 ∷ members ms) d2 m.3 h.3 g.3 h.4 g.4 (over_comma d (members ms) h.5) (spaces_over d2 g.5) in
      absurd (no_comma d2 d (members ms) (sym x.2) g.5 h.5)
  members_one (more_members a n b c v d ms) (more_members a2 n2 b2 c2 w d2 ns) h g e =
      let m = name_one a n b (c ++ (spelling v ++ (d ++ 44 ∷ members ms))) a2 n2 b2 (c2 ++ (spelling w ++ (d2 ++ 44 ∷ members ns))) e h.0 g.0 h.1 g.1 h.2 g.2 in
      let x = item_one c c2 v w (d ++ 44 ∷ members ms) (d2 ++ 44 ∷ members ns) m.3 h.3 g.3 h.4 g.4 (over_comma d (members ms) h.5) (over_comma d2 (members ns) g.5) in
      let t = tree_one v w h.4 g.4 x.1 in
      let y = comma_one d (members ms) d2 (members ns) x.2 h.5 g.5 in
      let r = members_one ms ns h.6 g.6 y.1 in
      rw (m.0, m.1, m.2, x.0, t, y.0, r)

-- ---- texts

pub read_one_way : (bytes : List ℕ) → ReadOneWay bytes
read_one_way bytes before space v w after left t u =
    let x = item_one before space v w after left (sym t.is ∙ u.is) t.is_before u.is_before t.is_tree u.is_tree (spaces_over after t.is_after) (spaces_over left u.is_after) in
    (x.0, tree_one v w t.is_tree u.is_tree x.1, x.2)

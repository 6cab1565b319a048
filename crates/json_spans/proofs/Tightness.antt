-- Dropping white space byte by byte spells the value without white space.
use Rattle.std.proofs.Common.{◌≡◌, ℕ, ◌<◌, true, false, ◌||◌, ◌==◌, List, [], ◌∷◌, ◌++◌, refl, ap, ◌∙◌, sym, arith, inl, inr}
use Rattle.std.proofs.lemmas.List.{append_assoc}
use Rattle.std.proofs.lemmas.Bool.Decides.{nat_tests}
use Rattle.std.proofs.lemmas.Bool.{ne_eqb}
use Rattle.json_spans.specs.Bytes.{is_space, is_digit, is_hex, is_exponent}
use Rattle.json_spans.specs.Grammar as grammar
use Rattle.json_spans.specs.Grammar.{Char, char, chars, quoted, IsChar, AreChars, AreSpaces, Tree, word, number, text, empty_list, list, empty_object, object, Items, one, more, Members, one_member, more_members, spelling, items, members, IsTree, AreItems, AreMembers, IsWord, AreDigits, AreSomeDigits, IsMinus, IsWhole, IsFraction, IsSigned, IsExponent, IsNumber}
use Rattle.json_spans.specs.Parts.{Part}
use Rattle.json_spans.specs.Tight.{tight, tight_items, tight_members, IsTight}
use Rattle.json_spans.specs.Squeeze.{squeezed_from, squeezed}
use Rattle.json_spans.specs.declared.squeeze.Where.TheVariants as at
use Rattle.json_spans.proofs.Forward.{holds, space_is}
use Rattle.json_spans.proofs.Texts.{nil}
use Rattle.json_spans.proofs.Characters.{hex_apart, d_is_hex, high_is_hex, low_is_hex}

-- what is left outside strings, and inside
abbrev S : List ℕ → List ℕ
S xs = squeezed_from at.Outside xs

abbrev I : List ℕ → List ℕ
I xs = squeezed_from at.Inside xs

keeps_one : (x : ℕ) (xs : List ℕ) → is_space x ≡ false → (x == 34) ≡ false → S (x ∷ xs) ≡ x ∷ S xs
unfolding squeezed_from
keeps_one x xs e f = rw (e, f)

spaces_gone : (w xs : List ℕ) → AreSpaces w → S (w ++ xs) ≡ S xs
unfolding squeezed_from
spaces_gone [] xs h = refl
spaces_gone (x ∷ w) xs h = rw (holds h.0, ne_eqb x 34 (space_is x 34 (holds h.0) refl)) (spaces_gone w xs h.1)

-- ---- bytes of words and numbers: they are kept outside strings, and are ASCII

abbrev pub IsKept : ℕ → Type 0
IsKept x = (is_space x ≡ false) × ((x == 34) ≡ false) × (x < 128)

abbrev pub AreKept : List ℕ → Type 0
AreKept [] = Unit {0}
AreKept (x ∷ xs) = IsKept x × AreKept xs

keeps : (s xs : List ℕ) → AreKept s → S (s ++ xs) ≡ s ++ S xs
keeps [] xs h = refl
keeps (x ∷ s) xs h = keeps_one x (s ++ xs) h.0.0 h.0.1 ∙ ap (λ z. x ∷ z) (keeps s xs h.1)

kept_append : (a b : List ℕ) → AreKept a → AreKept b → AreKept (a ++ b)
kept_append [] b h g = g
kept_append (x ∷ a) b h g = (h.0, kept_append a b h.1 g)

kept_digit : (x : ℕ) → is_digit x ≡ true → IsKept x
kept_digit x h = (grind (arith, nat_tests), grind (arith, nat_tests), grind (arith, nat_tests))

kept_exponent : (x : ℕ) → is_exponent x ≡ true → IsKept x
kept_exponent x h = (grind (arith, nat_tests), grind (arith, nat_tests), grind (arith, nat_tests))

kept_sign : (x : ℕ) → ((x == 43) || (x == 45)) ≡ true → IsKept x
kept_sign x h = (grind (arith, nat_tests), grind (arith, nat_tests), grind (arith, nat_tests))

kept_digits : (s : List ℕ) → AreDigits s → AreKept s
kept_digits [] h = tt
kept_digits (x ∷ s) h = (kept_digit x (holds h.0), kept_digits s h.1)

kept_some : (s : List ℕ) → AreSomeDigits s → AreKept s
kept_some [] h = absurd h
kept_some (x ∷ s) h = (kept_digit x (holds h.0), kept_digits s h.1)

kept_minus : (s : List ℕ) → IsMinus s → AreKept s
kept_minus s (inl h) = rw h tt
kept_minus s (inr h) = rw h ((refl, refl, omega arith), tt)

kept_whole : (s : List ℕ) → IsWhole s → AreKept s
kept_whole [] h = absurd h
kept_whole (x ∷ s) (inl h) = rw (h.0, h.1) ((refl, refl, omega arith), tt)
kept_whole (x ∷ s) (inr h) = (kept_digit x (holds h.1), kept_digits s h.2)

kept_fraction : (s : List ℕ) → IsFraction s → AreKept s
kept_fraction [] h = tt
kept_fraction (x ∷ s) h = rw h.0 ((refl, refl, omega arith), kept_some s h.1)

kept_signed : (s : List ℕ) → IsSigned s → AreKept s
kept_signed [] h = absurd h
kept_signed (x ∷ s) (inl h) = (kept_sign x (holds h.0), kept_some s h.1)
kept_signed (x ∷ s) (inr h) = (kept_digit x (holds h.0), kept_digits s h.1)

kept_power : (s : List ℕ) → IsExponent s → AreKept s
kept_power [] h = tt
kept_power (x ∷ s) h = (kept_exponent x (holds h.0), kept_signed s h.1)

pub kept_number : (s : List ℕ) → IsNumber s → AreKept s
kept_number s h =
    rw h.is (kept_append h.minus _ (kept_minus h.minus h.is_minus) (kept_append h.whole _ (kept_whole h.whole h.is_whole) (kept_append h.fraction _ (kept_fraction h.fraction h.is_fraction) (kept_power h.exponent h.is_exponent))))

pub kept_word : (s : List ℕ) → IsWord s → AreKept s
kept_word s (inl h) = rw h ((refl, refl, omega arith), ((refl, refl, omega arith), ((refl, refl, omega arith), ((refl, refl, omega arith), tt))))
kept_word s (inr (inl h)) = rw h ((refl, refl, omega arith), ((refl, refl, omega arith), ((refl, refl, omega arith), ((refl, refl, omega arith), ((refl, refl, omega arith), tt)))))
kept_word s (inr (inr h)) = rw h ((refl, refl, omega arith), ((refl, refl, omega arith), ((refl, refl, omega arith), ((refl, refl, omega arith), tt))))

-- ---- strings

inside_keeps : (x : ℕ) (xs : List ℕ) → (x == 34) ≡ false → (x == 92) ≡ false → I (x ∷ xs) ≡ x ∷ I xs
unfolding squeezed_from
inside_keeps x xs e f = rw (e, f)

escape_keeps : (x : ℕ) (xs : List ℕ) → I (92 ∷ x ∷ xs) ≡ 92 ∷ x ∷ I xs
unfolding squeezed_from
escape_keeps x xs = refl

hex_keeps : (x : ℕ) (xs : List ℕ) → is_hex x ≡ true → I (x ∷ xs) ≡ x ∷ I xs
hex_keeps x xs h = let a = hex_apart x h in inside_keeps x xs (ne_eqb x 34 a.0) (ne_eqb x 92 a.1)

hexes_keep : (a b c d : ℕ) (xs : List ℕ) → is_hex a ≡ true → is_hex b ≡ true → is_hex c ≡ true → is_hex d ≡ true → I (92 ∷ 117 ∷ a ∷ b ∷ c ∷ d ∷ xs) ≡ 92 ∷ 117 ∷ a ∷ b ∷ c ∷ d ∷ I xs
hexes_keep a b c d xs ha hb hc hd =
    escape_keeps 117 (a ∷ b ∷ c ∷ d ∷ xs) ∙ ap (λ z. 92 ∷ 117 ∷ z) (hex_keeps a (b ∷ c ∷ d ∷ xs) ha ∙ ap (λ z. a ∷ z) (hex_keeps b (c ∷ d ∷ xs) hb ∙ ap (λ z. b ∷ z) (hex_keeps c (d ∷ xs) hc ∙ ap (λ z. c ∷ z) (hex_keeps d xs hd))))

char_keeps : (c : Char) (xs : List ℕ) → IsChar c → I (char c ++ xs) ≡ char c ++ I xs
char_keeps (grammar.plain x) xs h = inside_keeps x xs (ne_eqb x 34 h.0) (ne_eqb x 92 h.1)
char_keeps (grammar.short x) xs h = escape_keeps x xs
char_keeps (grammar.unit a b c d) xs h = hexes_keep a b c d xs (holds h.0) (holds h.1) (holds h.2) (holds h.3)
char_keeps (grammar.pair a b c d f g i j) xs h =
    hexes_keep a b c d (92 ∷ 117 ∷ f ∷ g ∷ i ∷ j ∷ xs) (d_is_hex a (holds h.0.0)) (high_is_hex b (holds h.0.1)) (holds h.0.2) (holds h.0.3)
    ∙ ap (λ z. 92 ∷ 117 ∷ a ∷ b ∷ c ∷ d ∷ z) (hexes_keep f g i j xs (d_is_hex f (holds h.1.0)) (low_is_hex g (holds h.1.1)) (holds h.1.2) (holds h.1.3))

chars_keep : (cs : List Char) (xs : List ℕ) → AreChars cs → I (chars cs ++ 34 ∷ xs) ≡ chars cs ++ 34 ∷ S xs
unfolding squeezed_from
chars_keep [] xs h = refl
chars_keep (c ∷ cs) xs h =
    ap I (append_assoc (char c) (chars cs) (34 ∷ xs)) ∙ char_keeps c (chars cs ++ 34 ∷ xs) h.0 ∙ ap (λ z. char c ++ z) (chars_keep cs xs h.1) ∙ sym (append_assoc (char c) (chars cs) (34 ∷ S xs))

quote_opens : (xs : List ℕ) → S (34 ∷ xs) ≡ 34 ∷ I xs
unfolding squeezed_from
quote_opens xs = refl

quoted_keeps : (cs : List Char) (xs : List ℕ) → AreChars cs → S (quoted cs ++ xs) ≡ quoted cs ++ S xs
quoted_keeps cs xs h =
    quote_opens ((chars cs ++ 34 ∷ []) ++ xs)
    ∙ ap (λ z. 34 ∷ z) (ap I (append_assoc (chars cs) (34 ∷ []) xs) ∙ chars_keep cs xs h ∙ sym (append_assoc (chars cs) (34 ∷ []) (S xs)))

-- ---- values

mutual
  value_tight : (v : Tree) (xs : List ℕ) → IsTree v → S (spelling v ++ xs) ≡ spelling (tight v) ++ S xs
  value_tight (word s) xs h = keeps s xs (kept_word s h)
  value_tight (number s) xs h = keeps s xs (kept_number s h)
  value_tight (text cs) xs h = quoted_keeps cs xs h
  value_tight (empty_list w) xs h =
      keeps_one 91 ((w ++ 93 ∷ []) ++ xs) refl refl ∙ ap (λ z. 91 ∷ z) (ap S (append_assoc w (93 ∷ []) xs) ∙ spaces_gone w (93 ∷ xs) h ∙ keeps_one 93 xs refl refl)
  value_tight (list is) xs h =
      keeps_one 91 ((items is ++ 93 ∷ []) ++ xs) refl refl
      ∙ ap (λ z. 91 ∷ z) (ap S (append_assoc (items is) (93 ∷ []) xs) ∙ items_tight is (93 ∷ xs) h ∙ ap (λ z. items (tight_items is) ++ z) (keeps_one 93 xs refl refl) ∙ sym (append_assoc (items (tight_items is)) (93 ∷ []) (S xs)))
  value_tight (empty_object w) xs h =
      keeps_one 123 ((w ++ 125 ∷ []) ++ xs) refl refl ∙ ap (λ z. 123 ∷ z) (ap S (append_assoc w (125 ∷ []) xs) ∙ spaces_gone w (125 ∷ xs) h ∙ keeps_one 125 xs refl refl)
  value_tight (object ms) xs h =
      keeps_one 123 ((members ms ++ 125 ∷ []) ++ xs) refl refl
      ∙ ap (λ z. 123 ∷ z) (ap S (append_assoc (members ms) (125 ∷ []) xs) ∙ members_tight ms (125 ∷ xs) h ∙ ap (λ z. members (tight_members ms) ++ z) (keeps_one 125 xs refl refl) ∙ sym (append_assoc (members (tight_members ms)) (125 ∷ []) (S xs)))

  items_tight : (is : Items) (xs : List ℕ) → AreItems is → S (items is ++ xs) ≡ items (tight_items is) ++ S xs
  items_tight (one a v b) xs h =
      let apart : (a ++ (spelling v ++ b)) ++ xs ≡ a ++ (spelling v ++ (b ++ xs)) = simp append_assoc in
      ap S apart ∙ spaces_gone a (spelling v ++ (b ++ xs)) h.0 ∙ value_tight v (b ++ xs) h.1 ∙ ap (λ z. spelling (tight v) ++ z) (spaces_gone b xs h.2) ∙ sym (append_assoc (spelling (tight v)) [] (S xs))
  items_tight (more a v b is) xs h =
      let apart : (a ++ (spelling v ++ (b ++ 44 ∷ items is))) ++ xs ≡ a ++ (spelling v ++ (b ++ 44 ∷ (items is ++ xs))) = simp append_assoc in
      ap S apart ∙ spaces_gone a (spelling v ++ (b ++ 44 ∷ (items is ++ xs))) h.0 ∙ value_tight v (b ++ 44 ∷ (items is ++ xs)) h.1
      ∙ ap (λ z. spelling (tight v) ++ z) (spaces_gone b (44 ∷ (items is ++ xs)) h.2 ∙ keeps_one 44 (items is ++ xs) refl refl ∙ ap (λ z. 44 ∷ z) (items_tight is xs h.3))
      ∙ sym (append_assoc (spelling (tight v)) (44 ∷ items (tight_items is)) (S xs))

  members_tight : (ms : Members) (xs : List ℕ) → AreMembers ms → S (members ms ++ xs) ≡ members (tight_members ms) ++ S xs
  members_tight (one_member a n b c v d) xs h =
      let apart : (a ++ (quoted n ++ (b ++ 58 ∷ (c ++ (spelling v ++ d))))) ++ xs ≡ a ++ (quoted n ++ (b ++ 58 ∷ (c ++ (spelling v ++ (d ++ xs))))) = simp append_assoc in
      let joined : quoted n ++ 58 ∷ (spelling (tight v) ++ S xs) ≡ (quoted n ++ 58 ∷ (spelling (tight v) ++ [])) ++ S xs = simp append_assoc in
      ap S apart ∙ spaces_gone a _ h.0 ∙ quoted_keeps n (b ++ 58 ∷ (c ++ (spelling v ++ (d ++ xs)))) h.1
      ∙ ap (λ z. quoted n ++ z) (spaces_gone b (58 ∷ (c ++ (spelling v ++ (d ++ xs)))) h.2 ∙ keeps_one 58 (c ++ (spelling v ++ (d ++ xs))) refl refl
      ∙ ap (λ z. 58 ∷ z) (spaces_gone c (spelling v ++ (d ++ xs)) h.3 ∙ value_tight v (d ++ xs) h.4 ∙ ap (λ z. spelling (tight v) ++ z) (spaces_gone d xs h.5))) ∙ joined
  members_tight (more_members a n b c v d ms) xs h =
      let apart : (a ++ (quoted n ++ (b ++ 58 ∷ (c ++ (spelling v ++ (d ++ 44 ∷ members ms)))))) ++ xs ≡ a ++ (quoted n ++ (b ++ 58 ∷ (c ++ (spelling v ++ (d ++ 44 ∷ (members ms ++ xs)))))) = simp append_assoc in
      let joined : quoted n ++ 58 ∷ (spelling (tight v) ++ 44 ∷ (members (tight_members ms) ++ S xs)) ≡ (quoted n ++ 58 ∷ (spelling (tight v) ++ 44 ∷ members (tight_members ms))) ++ S xs = simp append_assoc in
      ap S apart ∙ spaces_gone a _ h.0 ∙ quoted_keeps n (b ++ 58 ∷ (c ++ (spelling v ++ (d ++ 44 ∷ (members ms ++ xs))))) h.1
      ∙ ap (λ z. quoted n ++ z) (spaces_gone b (58 ∷ (c ++ (spelling v ++ (d ++ 44 ∷ (members ms ++ xs))))) h.2 ∙ keeps_one 58 (c ++ (spelling v ++ (d ++ 44 ∷ (members ms ++ xs)))) refl refl
      ∙ ap (λ z. 58 ∷ z) (spaces_gone c (spelling v ++ (d ++ 44 ∷ (members ms ++ xs))) h.3 ∙ value_tight v (d ++ 44 ∷ (members ms ++ xs)) h.4
      ∙ ap (λ z. spelling (tight v) ++ z) (spaces_gone d (44 ∷ (members ms ++ xs)) h.5 ∙ keeps_one 44 (members ms ++ xs) refl refl ∙ ap (λ z. 44 ∷ z) (members_tight ms xs h.6)))) ∙ joined

nothing : S [] ≡ []
unfolding squeezed_from
nothing = refl

-- what is left of a part spells its value without white space
pub is_tight : (p : Part) (t : List ℕ) → t ≡ squeezed p.bytes → IsTight p t
is_tight p t e = λ v h. e ∙ ap S (h.is ∙ sym (nil (spelling v))) ∙ value_tight v [] h.is_tree ∙ ap (λ z. spelling (tight v) ++ z) nothing ∙ nil (spelling (tight v))

-- What is spelled by the grammar is read.
use Rattle.std.proofs.Common.{◌≡◌, ◌≢◌, ℕ, suc, ◌+◌, ◌-◌, ◌<◌, ◌≤◌, Bool, true, false, ◌&&◌, ◌||◌, ◌==◌, List, [], ◌∷◌, ◌++◌, length, refl, ap, ◌∙◌, sym, arith, rules, inl, inr, IsTrue}
use Rattle.std.proofs.lemmas.List.{append_assoc}
use Rattle.std.proofs.lemmas.Bool.Decides.{nat_tests}
use Rattle.std.proofs.lemmas.Bool.{ne_eqb, lt-ltb, le-ltb}
use Rattle.json_spans.specs.Bytes.{is_space, is_digit, is_hex, is_high, is_low, is_short, is_exponent}
use Rattle.json_spans.specs.Grammar.{Char, plain, short, unit, pair, char, chars, quoted, IsChar, AreChars, AreSpaces, is_d, is_surrogate, AreDigits, IsMinus, IsWhole, IsFraction, IsSigned, IsExponent, IsNumber, IsWord, Tree, word, number, text, empty_list, list, empty_object, object, Items, one, more, Members, one_member, more_members, spelling, items, members, IsTree, AreItems, AreMembers, depth, items_depth, members_depth}
use Rattle.json_spans.specs.Table.{step, after, begins, back, is_number_end}
use Rattle.json_spans.specs.Machine.{ended, Stack, Onward, top_of, first_of, finish, react, run}
use Rattle.json_spans.specs.declared.table.Mode.{Mode}
use Rattle.json_spans.specs.declared.table.Mode.TheVariants as mode
use Rattle.json_spans.specs.declared.table.Action.{Action}
use Rattle.json_spans.specs.declared.table.Action.TheVariants as does

stay_value : (s : Stack) (x : ℕ) → is_space x ≡ true → step mode.Value false (top_of s) x ≡ does.Go mode.Value
stay_value s x e = rw e

pub holds : {b : Bool} → IsTrue b → b ≡ true
holds h = search rules

-- a number does not go on
abbrev pub IsOver : List ℕ → Type 0
IsOver [] = Unit {0}
IsOver (x ∷ xs) = (is_digit x ≡ false) × ((x == 46) ≡ false) × (is_exponent x ≡ false)

pub digit_bounds : (x : ℕ) → is_digit x ≡ true → (48 ≤ x) × (x ≤ 57)
digit_bounds x e = (grind (arith, nat_tests), grind (arith, nat_tests))

exponent_value : (x : ℕ) → is_exponent x ≡ true → (is_digit x ≡ false) × ((x == 46) ≡ false)
exponent_value x e = (grind (arith, nat_tests), grind (arith, nat_tests))

-- what a number's first digit does, behind a minus or where a value may begin
record BeginsNumber (s : Stack) (m : Mode) : Type 0 where
  naught : step m false (top_of s) 48 ≡ does.Go mode.Zero
  digit : (x : ℕ) → is_digit x ≡ true → x ≢ 48 → step m false (top_of s) x ≡ does.Go mode.Whole

minus_begins : (s : Stack) → BeginsNumber s mode.Minus
minus_begins s = record { naught = refl; digit = λ x e ne. rw (ne_eqb x 48 ne, e) }

-- where a value may begin, a digit that is not zero begins a whole number
digit_begins : (stay : Mode) (x : ℕ) → is_digit x ≡ true → x ≢ 48 → begins stay x ≡ does.Go mode.Whole
digit_begins stay x e ne =
    let r = digit_bounds x e in
    rw (
      ne_eqb x 32 (λ e. omega arith),
      ne_eqb x 9 (λ e. omega arith),
      ne_eqb x 10 (λ e. omega arith),
      ne_eqb x 13 (λ e. omega arith),
      ne_eqb x 34 (λ e. omega arith),
      ne_eqb x 123 (λ e. omega arith),
      ne_eqb x 91 (λ e. omega arith),
      ne_eqb x 45 (λ e. omega arith),
      ne_eqb x 48 ne,
      e,
    )

-- the modes in which a value may begin
pub record BeginsValue (s : Stack) (m : Mode) : Type 0 where
  pub same : (x : ℕ) → x ≢ 93 → step m false (top_of s) x ≡ begins m x

pub value_begins : (s : Stack) → BeginsValue s mode.Value
value_begins s = record { same = λ x ne. refl }

pub first_begins : (s : Stack) → BeginsValue s mode.ValueOrClose
first_begins s = record { same = λ x ne. rw (ne_eqb x 93 ne) }

number_begins : (s : Stack) (m : Mode) → BeginsValue s m → BeginsNumber s m
number_begins s m b = record {
  naught = b.same 48 (λ e. cc);
  digit = λ x e ne. b.same x (λ f. let r = digit_bounds x e in omega arith) ∙ digit_begins m x e ne;
}

minus_first : (s : Stack) (m : Mode) → BeginsValue s m → step m false (top_of s) 45 ≡ does.Go mode.Minus
minus_first s m b = b.same 45 (λ e. omega arith)

pub space_is : (x k : ℕ) → is_space x ≡ true → is_space k ≡ false → x ≢ k
space_is x k e f g = let h = ap is_space g in cc

pub begins_space : (m : Mode) (x : ℕ) → is_space x ≡ true → begins m x ≡ does.Go m
begins_space m x e = rw e

pub stays_value : (s : Stack) (m : Mode) → BeginsValue s m → (x : ℕ) → is_space x ≡ true → step m false (top_of s) x ≡ does.Go m
stays_value s m b x e = b.same x (space_is x 93 e refl) ∙ begins_space m x e

pub stays_after : (b : Bool) (s : Stack) (x : ℕ) → is_space x ≡ true → step mode.After false (top_of (b ∷ s)) x ≡ does.Go mode.After
stays_after true s x e = rw e
stays_after false s x e = rw e

pub stays_colon : (s : Stack) (x : ℕ) → is_space x ≡ true → step mode.Colon true (top_of s) x ≡ does.Go mode.Colon
stays_colon s x e = rw e

-- the modes in which a name may begin
pub record BeginsName (s : Stack) (m : Mode) : Type 0 where
  pub stays : (x : ℕ) → is_space x ≡ true → step m false (top_of s) x ≡ does.Go m
  pub name : step m false (top_of s) 34 ≡ does.Name

pub name_begins : (s : Stack) → BeginsName s mode.Name
name_begins s = record { stays = λ x e. rw e; name = refl }

pub first_name_begins : (s : Stack) → BeginsName s mode.NameOrClose
first_name_begins s = record { stays = λ x e. rw (ne_eqb x 125 (space_is x 125 e refl), e); name = refl }

pub IsOver-spaces : (w xs : List ℕ) → AreSpaces w → IsOver xs → IsOver (w ++ xs)
IsOver-spaces [] xs h o = o
IsOver-spaces (x ∷ w) xs h o =
    let e = holds h.0 in
    let lemma : (is_digit x ≡ false) × ((x == 46) ≡ false) × (is_exponent x ≡ false) = space_over x e in lemma
  where
    space_over : (x : ℕ) → is_space x ≡ true → (is_digit x ≡ false) × ((x == 46) ≡ false) × (is_exponent x ≡ false)
    space_over x e = (grind (arith, nat_tests), grind (arith, nat_tests), grind (arith, nat_tests))

module _ (limit : ℕ) where
  -- what is left goes on
  abbrev pub on : ℕ → List ℕ → Onward
  on n xs = λ m naming s. run limit n m naming s xs

  -- one byte, whose action is known
  pub byte : (n : ℕ) (m : Mode) (naming : Bool) (s : Stack) (x : ℕ) (xs : List ℕ) (a : Action) → step m naming (top_of s) x ≡ a
      → run limit n m naming s (x ∷ xs) ≡ react limit (n - suc (length xs)) (n - length xs) naming s (on n xs) a
  unfolding run
  byte n m naming s x xs a e = ap (react limit (n - suc (length xs)) (n - length xs) naming s (on n xs)) e

  pub spaces : (n : ℕ) (m : Mode) (naming : Bool) (s : Stack) → ((x : ℕ) → is_space x ≡ true → step m naming (top_of s) x ≡ does.Go m)
      → (w xs : List ℕ) → AreSpaces w → run limit n m naming s (w ++ xs) ≡ run limit n m naming s xs
  spaces n m naming s stays [] xs h = refl
  spaces n m naming s stays (x ∷ w) xs h = byte n m naming s x (w ++ xs) _ (stays x (search rules)) ∙ spaces n m naming s stays w xs h.1

  -- ---- strings

  plain_char : (n : ℕ) (naming : Bool) (s : Stack) (x : ℕ) (xs : List ℕ) → IsChar (plain x) → run limit n mode.Text naming s (x ∷ xs) ≡ run limit n mode.Text naming s xs
  plain_char n naming s x xs h = byte n mode.Text naming s x xs (does.Go mode.Text) (rw (ne_eqb x 34 h.0, ne_eqb x 92 h.1, le-ltb x 32 h.2))

  short_char : (n : ℕ) (naming : Bool) (s : Stack) (x : ℕ) (xs : List ℕ) → is_short x ≡ true → run limit n mode.Text naming s (92 ∷ x ∷ xs) ≡ run limit n mode.Text naming s xs
  short_char n naming s x xs h = byte n mode.Text naming s 92 (x ∷ xs) (does.Go mode.Escape) refl ∙ byte n mode.Escape naming s x xs (does.Go mode.Text) (rw h)

  hex_second : (n : ℕ) (naming : Bool) (s : Stack) (a b : ℕ) (xs : List ℕ) (da hb lb : Bool) → is_d a ≡ da → is_high b ≡ hb → is_low b ≡ lb → (da && (hb || lb)) ≡ false
      → is_hex a ≡ true → is_hex b ≡ true → run limit n mode.Hex4 naming s (a ∷ b ∷ xs) ≡ run limit n mode.Hex2 naming s xs
  hex_second n naming s a b xs true true lb e f g lone ha hb' = absurd (cc)
  hex_second n naming s a b xs true false true e f g lone ha hb' = absurd (cc)
  hex_second n naming s a b xs true false false e f g lone ha hb' =
      byte n mode.Hex4 naming s a (b ∷ xs) (does.Go mode.HexD) (rw e) ∙ byte n mode.HexD naming s b xs (does.Go mode.Hex2) (rw (f, g, hb'))
  hex_second n naming s a b xs false hb lb e f g lone ha hb' =
      byte n mode.Hex4 naming s a (b ∷ xs) (does.Go mode.Hex3) (rw (e, ha)) ∙ byte n mode.Hex3 naming s b xs (does.Go mode.Hex2) (rw hb')

  unit_char : (n : ℕ) (naming : Bool) (s : Stack) (a b c d : ℕ) (xs : List ℕ) → is_hex a ≡ true → is_hex b ≡ true → is_hex c ≡ true → is_hex d ≡ true → is_surrogate a b ≡ false
      → run limit n mode.Text naming s (92 ∷ 117 ∷ a ∷ b ∷ c ∷ d ∷ xs) ≡ run limit n mode.Text naming s xs
  unit_char n naming s a b c d xs ha hb hc hd lone =
      byte n mode.Text naming s 92 (117 ∷ a ∷ b ∷ c ∷ d ∷ xs) (does.Go mode.Escape) refl
      ∙ byte n mode.Escape naming s 117 (a ∷ b ∷ c ∷ d ∷ xs) (does.Go mode.Hex4) refl
      ∙ hex_second n naming s a b (c ∷ d ∷ xs) _ _ _ refl refl refl lone ha hb
      ∙ byte n mode.Hex2 naming s c (d ∷ xs) (does.Go mode.Hex1) (rw hc)
      ∙ byte n mode.Hex1 naming s d xs (does.Go mode.Text) (rw hd)

  pair_char : (n : ℕ) (naming : Bool) (s : Stack) (a b c d e f g h : ℕ) (xs : List ℕ) → is_d a ≡ true → is_high b ≡ true → is_hex c ≡ true → is_hex d ≡ true
      → is_d e ≡ true → is_low f ≡ true → is_hex g ≡ true → is_hex h ≡ true
      → run limit n mode.Text naming s (92 ∷ 117 ∷ a ∷ b ∷ c ∷ d ∷ 92 ∷ 117 ∷ e ∷ f ∷ g ∷ h ∷ xs) ≡ run limit n mode.Text naming s xs
  pair_char n naming s a b c d e f g h xs pa pb pc pd pe pf pg ph =
      byte n mode.Text naming s 92 (117 ∷ a ∷ b ∷ c ∷ d ∷ 92 ∷ 117 ∷ e ∷ f ∷ g ∷ h ∷ xs) (does.Go mode.Escape) refl
      ∙ byte n mode.Escape naming s 117 (a ∷ b ∷ c ∷ d ∷ 92 ∷ 117 ∷ e ∷ f ∷ g ∷ h ∷ xs) (does.Go mode.Hex4) refl
      ∙ byte n mode.Hex4 naming s a (b ∷ c ∷ d ∷ 92 ∷ 117 ∷ e ∷ f ∷ g ∷ h ∷ xs) (does.Go mode.HexD) (rw pa)
      ∙ byte n mode.HexD naming s b (c ∷ d ∷ 92 ∷ 117 ∷ e ∷ f ∷ g ∷ h ∷ xs) (does.Go mode.High2) (rw pb)
      ∙ byte n mode.High2 naming s c (d ∷ 92 ∷ 117 ∷ e ∷ f ∷ g ∷ h ∷ xs) (does.Go mode.High1) (rw pc)
      ∙ byte n mode.High1 naming s d (92 ∷ 117 ∷ e ∷ f ∷ g ∷ h ∷ xs) (does.Go mode.Pair6) (rw pd)
      ∙ byte n mode.Pair6 naming s 92 (117 ∷ e ∷ f ∷ g ∷ h ∷ xs) (does.Go mode.Pair5) refl
      ∙ byte n mode.Pair5 naming s 117 (e ∷ f ∷ g ∷ h ∷ xs) (does.Go mode.Pair4) refl
      ∙ byte n mode.Pair4 naming s e (f ∷ g ∷ h ∷ xs) (does.Go mode.Pair3) (rw pe)
      ∙ byte n mode.Pair3 naming s f (g ∷ h ∷ xs) (does.Go mode.Pair2) (rw pf)
      ∙ byte n mode.Pair2 naming s g (h ∷ xs) (does.Go mode.Pair1) (rw pg)
      ∙ byte n mode.Pair1 naming s h xs (does.Go mode.Text) (rw ph)

  pub one_char : (n : ℕ) (naming : Bool) (s : Stack) (c : Char) (xs : List ℕ) → IsChar c → run limit n mode.Text naming s (char c ++ xs) ≡ run limit n mode.Text naming s xs
  one_char n naming s (plain x) xs h = plain_char n naming s x xs h
  one_char n naming s (short x) xs h = short_char n naming s x xs (holds h)
  one_char n naming s (unit a b c d) xs h = unit_char n naming s a b c d xs (holds h.0) (holds h.1) (holds h.2) (holds h.3) h.4
  one_char n naming s (pair a b c d e f g h) xs p = pair_char n naming s a b c d e f g h xs (holds p.0.0) (holds p.0.1) (holds p.0.2) (holds p.0.3) (holds p.1.0) (holds p.1.1) (holds p.1.2) (holds p.1.3)

  pub all_chars : (n : ℕ) (naming : Bool) (s : Stack) (cs : List Char) (xs : List ℕ) → AreChars cs → run limit n mode.Text naming s (chars cs ++ xs) ≡ run limit n mode.Text naming s xs
  all_chars n naming s [] xs h = refl
  all_chars n naming s (c ∷ cs) xs h = ap (run limit n mode.Text naming s) (append_assoc (char c) (chars cs) xs) ∙ one_char n naming s c (chars cs ++ xs) h.0 ∙ all_chars n naming s cs xs h.1

  abbrev pub Finished : ℕ → Stack → Mode → List ℕ → List ℕ → Type 0
  Finished n s m xs rest = run limit n m false s xs ≡ finish (n - length rest) false s (on n rest)

  pub over_at : (n : ℕ) (m : Mode) (s : Stack) (x : ℕ) (xs : List ℕ) → step m false (top_of s) x ≡ after (top_of s) x → Finished n s m (x ∷ xs) (x ∷ xs)
  over_at n m [] x xs e = byte n m false [] x xs does.Over e
  over_at n m (b ∷ s) x xs e = byte n m false (b ∷ s) x xs _ e ∙ sym (byte n mode.After false (b ∷ s) x xs _ refl)

  pub over_end : (n : ℕ) (m : Mode) (s : Stack) → is_number_end m ≡ true → back m ≡ 0 → Finished n s m [] []
  unfolding run
  over_end n m [] e f = let same : n ≡ n - 0 = omega arith in rw e (ap ended same)
  over_end n m (b ∷ s) e f = rw f

  pub digits : (n : ℕ) (m : Mode) (s : Stack) → ((x : ℕ) → is_digit x ≡ true → step m false (top_of s) x ≡ does.Go m) → (w xs : List ℕ) → AreDigits w → run limit n m false s (w ++ xs) ≡ run limit n m false s xs
  digits n m s stays [] xs h = refl
  digits n m s stays (x ∷ w) xs h = byte n m false s x (w ++ xs) _ (stays x (holds h.0)) ∙ digits n m s stays w xs h.1

  pub over_digits : (n : ℕ) (s : Stack) (rest : List ℕ) → IsOver rest → Finished n s mode.ExponentDigits rest rest
  over_digits n s [] h = over_end n mode.ExponentDigits s refl refl
  over_digits n s (x ∷ xs) h = over_at n mode.ExponentDigits s x xs (rw h.0)

  pub exponent_digits : (n : ℕ) (s : Stack) (ds rest : List ℕ) → AreDigits ds → IsOver rest → Finished n s mode.ExponentDigits (ds ++ rest) rest
  exponent_digits n s ds rest h o = digits n mode.ExponentDigits s (λ x e. rw e) ds rest h ∙ over_digits n s rest o

  signed : (n : ℕ) (s : Stack) (xs rest : List ℕ) → IsSigned xs → IsOver rest → Finished n s mode.Exponent (xs ++ rest) rest
  signed n s [] rest h o = absurd h
  signed n s (x ∷ []) rest (inl h) o = absurd h.1
  signed n s (x ∷ y ∷ ds) rest (inl h) o =
      byte n mode.Exponent false s x (y ∷ (ds ++ rest)) (does.Go mode.ExponentSign) (rw (holds h.0))
      ∙ byte n mode.ExponentSign false s y (ds ++ rest) (does.Go mode.ExponentDigits) (rw (holds h.1.0)) ∙ exponent_digits n s ds rest h.1.1 o
  signed n s (x ∷ ds) rest (inr h) o =
      let in_range = digit_bounds x (holds h.0) in
      byte n mode.Exponent false s x (ds ++ rest) (does.Go mode.ExponentDigits) (rw (ne_eqb x 43 (λ e. omega arith), ne_eqb x 45 (λ e. omega arith), holds h.0))
      ∙ exponent_digits n s ds rest h.1 o

  -- a mode that goes on with an exponent, or is over
  record IsLast (n : ℕ) (s : Stack) (m : Mode) : Type 0 where
    over : (rest : List ℕ) → IsOver rest → Finished n s m rest rest
    power : (x : ℕ) → is_exponent x ≡ true → step m false (top_of s) x ≡ does.Go mode.Exponent

  last_exponent : (n : ℕ) (s : Stack) (m : Mode) → IsLast n s m → (e rest : List ℕ) → IsExponent e → IsOver rest → Finished n s m (e ++ rest) rest
  last_exponent n s m l [] rest h o = l.over rest o
  last_exponent n s m l (x ∷ e) rest h o = byte n m false s x (e ++ rest) _ (l.power x (holds h.0)) ∙ signed n s e rest h.1 o

  pub fraction_over : (n : ℕ) (s : Stack) (rest : List ℕ) → IsOver rest → Finished n s mode.Fraction rest rest
  fraction_over n s [] h = over_end n mode.Fraction s refl refl
  fraction_over n s (x ∷ xs) h = over_at n mode.Fraction s x xs (rw (h.0, h.2))

  pub zero_over : (n : ℕ) (s : Stack) (rest : List ℕ) → IsOver rest → Finished n s mode.Zero rest rest
  zero_over n s [] h = over_end n mode.Zero s refl refl
  zero_over n s (x ∷ xs) h = over_at n mode.Zero s x xs (rw (h.1, h.2))

  pub whole_over : (n : ℕ) (s : Stack) (rest : List ℕ) → IsOver rest → Finished n s mode.Whole rest rest
  whole_over n s [] h = over_end n mode.Whole s refl refl
  whole_over n s (x ∷ xs) h = over_at n mode.Whole s x xs (rw (h.0, h.1, h.2))

  fraction_last : (n : ℕ) (s : Stack) → IsLast n s mode.Fraction
  fraction_last n s = record { over = fraction_over n s; power = λ x e. rw ((exponent_value x e).0, e) }

  zero_last : (n : ℕ) (s : Stack) → IsLast n s mode.Zero
  zero_last n s = record { over = zero_over n s; power = λ x e. rw ((exponent_value x e).1, e) }

  whole_last : (n : ℕ) (s : Stack) → IsLast n s mode.Whole
  whole_last n s = record { over = whole_over n s; power = λ x e. rw ((exponent_value x e).0, (exponent_value x e).1, e) }

  -- a mode that goes on with a fraction too
  fraction_read : (n : ℕ) (s : Stack) (m : Mode) → IsLast n s m → step m false (top_of s) 46 ≡ does.Go mode.Point
      → (f e rest : List ℕ) → IsFraction f → IsExponent e → IsOver rest → Finished n s m (f ++ (e ++ rest)) rest
  fraction_read n s m l point [] e rest hf he o = last_exponent n s m l e rest he o
  fraction_read n s m l point (x ∷ []) e rest hf he o = absurd hf.1
  fraction_read n s m l point (x ∷ y ∷ ds) e rest hf he o =
      byte n m false s x (y ∷ (ds ++ (e ++ rest))) (does.Go mode.Point) (ap (step m false (top_of s)) hf.0 ∙ point)
      ∙ byte n mode.Point false s y (ds ++ (e ++ rest)) (does.Go mode.Fraction) (rw (holds hf.1.0))
      ∙ digits n mode.Fraction s (λ x e. rw e) ds (e ++ rest) hf.1.1 ∙ last_exponent n s mode.Fraction (fraction_last n s) e rest he o

  whole_read : (n : ℕ) (s : Stack) (m : Mode) → BeginsNumber s m → (w f e rest : List ℕ) → IsWhole w → IsFraction f → IsExponent e → IsOver rest → Finished n s m (w ++ (f ++ (e ++ rest))) rest
  whole_read n s m b [] f e rest hw hf he o = absurd hw
  whole_read n s m b (x ∷ w) f e rest (inl hw) hf he o =
      ap (λ w. run limit n m false s (x ∷ (w ++ (f ++ (e ++ rest))))) hw.1 ∙ byte n m false s x (f ++ (e ++ rest)) (does.Go mode.Zero) (ap (step m false (top_of s)) hw.0 ∙ b.naught)
      ∙ fraction_read n s mode.Zero (zero_last n s) refl f e rest hf he o
  whole_read n s m b (x ∷ w) f e rest (inr hw) hf he o =
      byte n m false s x (w ++ (f ++ (e ++ rest))) (does.Go mode.Whole) (b.digit x (holds hw.1) hw.0)
      ∙ digits n mode.Whole s (λ x e. rw e) w (f ++ (e ++ rest)) hw.2 ∙ fraction_read n s mode.Whole (whole_last n s) refl f e rest hf he o

  minus_step : (n : ℕ) (s : Stack) (m : Mode) → BeginsValue s m → (xs rest : List ℕ) → Finished n s mode.Minus xs rest → Finished n s m (45 ∷ xs) rest
  minus_step n s m b xs rest h = byte n m false s 45 xs (does.Go mode.Minus) (minus_first s m b) ∙ h

  minus_read : (n : ℕ) (s : Stack) (m : Mode) → BeginsValue s m → (i xs rest : List ℕ) → IsMinus i → Finished n s m xs rest → Finished n s mode.Minus xs rest → Finished n s m (i ++ xs) rest
  minus_read n s m b i xs rest (inl hi) g h = ap (λ i. run limit n m false s (i ++ xs)) hi ∙ g
  minus_read n s m b i xs rest (inr hi) g h = ap (λ i. run limit n m false s (i ++ xs)) hi ∙ minus_step n s m b xs rest h

  pub number_read : (n : ℕ) (s : Stack) (m : Mode) → BeginsValue s m → (x rest : List ℕ) → IsNumber x → IsOver rest → Finished n s m (x ++ rest) rest
  number_read n s m b x rest h o =
      let apart : (h.minus ++ (h.whole ++ (h.fraction ++ h.exponent))) ++ rest ≡ h.minus ++ (h.whole ++ (h.fraction ++ (h.exponent ++ rest))) = simp append_assoc in
      ap (λ x. run limit n m false s (x ++ rest)) h.is ∙ ap (run limit n m false s) apart
      ∙ minus_read n s m b h.minus (h.whole ++ (h.fraction ++ (h.exponent ++ rest))) rest h.is_minus (whole_read n s m (number_begins s m b) h.whole h.fraction h.exponent rest h.is_whole h.is_fraction h.is_exponent o)
      (whole_read n s mode.Minus (minus_begins s) h.whole h.fraction h.exponent rest h.is_whole h.is_fraction h.is_exponent o)

  -- ---- the three literal names

  pub word_read : (n : ℕ) (s : Stack) (m : Mode) → BeginsValue s m → (w rest : List ℕ) → IsWord w → Finished n s m (w ++ rest) rest
  word_read n s m b w rest (inl h) =
      ap (λ w. run limit n m false s (w ++ rest)) h ∙ byte n m false s 116 (114 ∷ 117 ∷ 101 ∷ rest) (does.Go mode.True3) (b.same 116 (λ e. omega arith))
      ∙ byte n mode.True3 false s 114 (117 ∷ 101 ∷ rest) _ refl ∙ byte n mode.True2 false s 117 (101 ∷ rest) _ refl ∙ byte n mode.True1 false s 101 rest _ refl
  word_read n s m b w rest (inr (inl h)) =
      ap (λ w. run limit n m false s (w ++ rest)) h ∙ byte n m false s 102 (97 ∷ 108 ∷ 115 ∷ 101 ∷ rest) (does.Go mode.False4) (b.same 102 (λ e. omega arith))
      ∙ byte n mode.False4 false s 97 (108 ∷ 115 ∷ 101 ∷ rest) _ refl ∙ byte n mode.False3 false s 108 (115 ∷ 101 ∷ rest) _ refl ∙ byte n mode.False2 false s 115 (101 ∷ rest) _ refl
      ∙ byte n mode.False1 false s 101 rest _ refl
  word_read n s m b w rest (inr (inr h)) =
      ap (λ w. run limit n m false s (w ++ rest)) h ∙ byte n m false s 110 (117 ∷ 108 ∷ 108 ∷ rest) (does.Go mode.Null3) (b.same 110 (λ e. omega arith))
      ∙ byte n mode.Null3 false s 117 (108 ∷ 108 ∷ rest) _ refl ∙ byte n mode.Null2 false s 108 (108 ∷ rest) _ refl ∙ byte n mode.Null1 false s 108 rest _ refl

  opens : (n : ℕ) (s : Stack) (m : Mode) (b : Bool) (x : ℕ) (xs : List ℕ) → step m false (top_of s) x ≡ does.Open b → length s < limit → run limit n m false s (x ∷ xs) ≡ run limit n (first_of b) false (b ∷ s) xs
  opens n s m b x xs e h = byte n m false s x xs (does.Open b) e ∙ within
    where
      within : react limit (n - suc (length xs)) (n - length xs) false s (on n xs) (does.Open b) ≡ run limit n (first_of b) false (b ∷ s) xs
      within = rw (lt-ltb (length s) limit h)

  text_read : (n : ℕ) (s : Stack) (m : Mode) → BeginsValue s m → (cs : List Char) (rest : List ℕ) → AreChars cs → Finished n s m (quoted cs ++ rest) rest
  text_read n s m b cs rest h =
      let apart : (chars cs ++ 34 ∷ []) ++ rest ≡ chars cs ++ 34 ∷ rest = simp append_assoc in
      byte n m false s 34 ((chars cs ++ 34 ∷ []) ++ rest) does.Text (b.same 34 (λ e. omega arith)) ∙ ap (run limit n mode.Text false s) apart
      ∙ all_chars n false s cs (34 ∷ rest) h ∙ byte n mode.Text false s 34 rest does.Done refl

  name_read : (n : ℕ) (s : Stack) (m : Mode) → BeginsName s m → (cs : List Char) (b rest : List ℕ) → AreChars cs → AreSpaces b
      → run limit n m false s (quoted cs ++ (b ++ 58 ∷ rest)) ≡ run limit n mode.Value false s rest
  name_read n s m f cs b rest h g =
      let apart : (chars cs ++ 34 ∷ []) ++ (b ++ 58 ∷ rest) ≡ chars cs ++ 34 ∷ (b ++ 58 ∷ rest) = simp append_assoc in
      byte n m false s 34 ((chars cs ++ 34 ∷ []) ++ (b ++ 58 ∷ rest)) does.Name f.name ∙ ap (run limit n mode.Text true s) apart
      ∙ all_chars n true s cs (34 ∷ (b ++ 58 ∷ rest)) h ∙ byte n mode.Text true s 34 (b ++ 58 ∷ rest) (does.Go mode.Colon) refl
      ∙ spaces n mode.Colon true s (stays_colon s) b (58 ∷ rest) g ∙ byte n mode.Colon true s 58 rest does.Begin refl

  list_close : (n : ℕ) (s : Stack) (b rest : List ℕ) → AreSpaces b → run limit n mode.After false (false ∷ s) (b ++ 93 ∷ rest) ≡ finish (n - length rest) false s (on n rest)
  list_close n s b rest h = spaces n mode.After false (false ∷ s) (stays_after false s) b (93 ∷ rest) h ∙ byte n mode.After false (false ∷ s) 93 rest does.Close refl

  list_comma : (n : ℕ) (s : Stack) (b rest : List ℕ) → AreSpaces b → run limit n mode.After false (false ∷ s) (b ++ 44 ∷ rest) ≡ run limit n mode.Value false (false ∷ s) rest
  list_comma n s b rest h = spaces n mode.After false (false ∷ s) (stays_after false s) b (44 ∷ rest) h ∙ byte n mode.After false (false ∷ s) 44 rest (does.Go mode.Value) refl

  object_close : (n : ℕ) (s : Stack) (b rest : List ℕ) → AreSpaces b → run limit n mode.After false (true ∷ s) (b ++ 125 ∷ rest) ≡ finish (n - length rest) false s (on n rest)
  object_close n s b rest h = spaces n mode.After false (true ∷ s) (stays_after true s) b (125 ∷ rest) h ∙ byte n mode.After false (true ∷ s) 125 rest does.Close refl

  object_comma : (n : ℕ) (s : Stack) (b rest : List ℕ) → AreSpaces b → run limit n mode.After false (true ∷ s) (b ++ 44 ∷ rest) ≡ run limit n mode.Name false (true ∷ s) rest
  object_comma n s b rest h = spaces n mode.After false (true ∷ s) (stays_after true s) b (44 ∷ rest) h ∙ byte n mode.After false (true ∷ s) 44 rest (does.Go mode.Name) refl

  mutual
    pub value_read : (n : ℕ) (s : Stack) (m : Mode) → BeginsValue s m → (v : Tree) (rest : List ℕ) → IsTree v → depth v + length s ≤ limit → IsOver rest
        → Finished n s m (spelling v ++ rest) rest
    value_read n s m b (word w) rest h d o = word_read n s m b w rest h
    value_read n s m b (number x) rest h d o = number_read n s m b x rest h o
    value_read n s m b (text cs) rest h d o = text_read n s m b cs rest h
    value_read n s m b (empty_list w) rest h d o =
        let apart : (w ++ 93 ∷ []) ++ rest ≡ w ++ 93 ∷ rest = simp append_assoc in
        opens n s m false 91 ((w ++ 93 ∷ []) ++ rest) (b.same 91 (λ e. omega arith)) (omega arith) ∙ ap (run limit n mode.ValueOrClose false (false ∷ s)) apart
        ∙ spaces n mode.ValueOrClose false (false ∷ s) (stays_value (false ∷ s) mode.ValueOrClose (first_begins (false ∷ s))) w (93 ∷ rest) h
        ∙ byte n mode.ValueOrClose false (false ∷ s) 93 rest does.Close refl
    value_read n s m b (list is) rest h d o =
        let apart : (items is ++ 93 ∷ []) ++ rest ≡ items is ++ 93 ∷ rest = simp append_assoc in
        opens n s m false 91 ((items is ++ 93 ∷ []) ++ rest) (b.same 91 (λ e. omega arith)) (omega arith) ∙ ap (run limit n mode.ValueOrClose false (false ∷ s)) apart
        ∙ items_read n s mode.ValueOrClose (first_begins (false ∷ s)) is rest h (omega arith)
    value_read n s m b (empty_object w) rest h d o =
        let apart : (w ++ 125 ∷ []) ++ rest ≡ w ++ 125 ∷ rest = simp append_assoc in
        opens n s m true 123 ((w ++ 125 ∷ []) ++ rest) (b.same 123 (λ e. omega arith)) (omega arith) ∙ ap (run limit n mode.NameOrClose false (true ∷ s)) apart
        ∙ spaces n mode.NameOrClose false (true ∷ s) (first_name_begins (true ∷ s)).stays w (125 ∷ rest) h
        ∙ byte n mode.NameOrClose false (true ∷ s) 125 rest does.Close refl
    value_read n s m b (object ms) rest h d o =
        let apart : (members ms ++ 125 ∷ []) ++ rest ≡ members ms ++ 125 ∷ rest = simp append_assoc in
        opens n s m true 123 ((members ms ++ 125 ∷ []) ++ rest) (b.same 123 (λ e. omega arith)) (omega arith) ∙ ap (run limit n mode.NameOrClose false (true ∷ s)) apart
        ∙ members_read n s mode.NameOrClose (first_name_begins (true ∷ s)) ms rest h (omega arith)

    pub items_read : (n : ℕ) (s : Stack) (m : Mode) → BeginsValue (false ∷ s) m → (is : Items) (rest : List ℕ) → AreItems is → items_depth is + length (false ∷ s) ≤ limit
        → run limit n m false (false ∷ s) (items is ++ 93 ∷ rest) ≡ finish (n - length rest) false s (on n rest)
    items_read n s m b (one a v c) rest h d =
        let apart : (a ++ (spelling v ++ c)) ++ 93 ∷ rest ≡ a ++ (spelling v ++ (c ++ 93 ∷ rest)) = simp append_assoc in
        ap (run limit n m false (false ∷ s)) apart ∙ spaces n m false (false ∷ s) (stays_value (false ∷ s) m b) a (spelling v ++ (c ++ 93 ∷ rest)) h.0
        ∙ value_read n (false ∷ s) m b v (c ++ 93 ∷ rest) h.1 d (IsOver-spaces c (93 ∷ rest) h.2 (refl, refl, refl)) ∙ list_close n s c rest h.2
    items_read n s m b (more a v c is) rest h d =
        let apart : (a ++ (spelling v ++ (c ++ 44 ∷ items is))) ++ 93 ∷ rest ≡ a ++ (spelling v ++ (c ++ 44 ∷ (items is ++ 93 ∷ rest))) = simp append_assoc in
        ap (run limit n m false (false ∷ s)) apart ∙ spaces n m false (false ∷ s) (stays_value (false ∷ s) m b) a (spelling v ++ (c ++ 44 ∷ (items is ++ 93 ∷ rest))) h.0
        ∙ value_read n (false ∷ s) m b v (c ++ 44 ∷ (items is ++ 93 ∷ rest)) h.1 (omega arith) (IsOver-spaces c (44 ∷ (items is ++ 93 ∷ rest)) h.2 (refl, refl, refl))
        ∙ list_comma n s c (items is ++ 93 ∷ rest) h.2 ∙ items_read n s mode.Value (value_begins (false ∷ s)) is rest h.3 (omega arith)

    pub members_read : (n : ℕ) (s : Stack) (m : Mode) → BeginsName (true ∷ s) m → (ms : Members) (rest : List ℕ) → AreMembers ms → members_depth ms + length (true ∷ s) ≤ limit
        → run limit n m false (true ∷ s) (members ms ++ 125 ∷ rest) ≡ finish (n - length rest) false s (on n rest)
    members_read n s m b (one_member a k c e v f) rest h d =
        let apart : (a ++ (quoted k ++ (c ++ 58 ∷ (e ++ (spelling v ++ f))))) ++ 125 ∷ rest ≡ a ++ (quoted k ++ (c ++ 58 ∷ (e ++ (spelling v ++ (f ++ 125 ∷ rest))))) = simp append_assoc in
        ap (run limit n m false (true ∷ s)) apart ∙ spaces n m false (true ∷ s) b.stays a _ h.0 ∙ name_read n (true ∷ s) m b k c _ h.1 h.2
        ∙ spaces n mode.Value false (true ∷ s) (stays_value (true ∷ s) mode.Value (value_begins (true ∷ s))) e _ h.3
        ∙ value_read n (true ∷ s) mode.Value (value_begins (true ∷ s)) v (f ++ 125 ∷ rest) h.4 d (IsOver-spaces f (125 ∷ rest) h.5 (refl, refl, refl)) ∙ object_close n s f rest h.5
    members_read n s m b (more_members a k c e v f ms) rest h d =
        let apart : (a ++ (quoted k ++ (c ++ 58 ∷ (e ++ (spelling v ++ (f ++ 44 ∷ members ms)))))) ++ 125 ∷ rest ≡ a ++ (quoted k ++ (c ++ 58 ∷ (e ++ (spelling v ++ (f ++ 44 ∷ (members ms ++ 125 ∷ rest)))))) = simp append_assoc in
        ap (run limit n m false (true ∷ s)) apart ∙ spaces n m false (true ∷ s) b.stays a _ h.0 ∙ name_read n (true ∷ s) m b k c _ h.1 h.2
        ∙ spaces n mode.Value false (true ∷ s) (stays_value (true ∷ s) mode.Value (value_begins (true ∷ s))) e _ h.3
        ∙ value_read n (true ∷ s) mode.Value (value_begins (true ∷ s)) v (f ++ 44 ∷ (members ms ++ 125 ∷ rest)) h.4 (omega arith) (IsOver-spaces f (44 ∷ (members ms ++ 125 ∷ rest)) h.5 (refl, refl, refl))
        ∙ object_comma n s f (members ms ++ 125 ∷ rest) h.5 ∙ members_read n s mode.Name (name_begins (true ∷ s)) ms rest h.6 (omega arith)

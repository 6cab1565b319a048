-- What is read is spelled by the grammar.
use Rattle.std.proofs.Common.{◌≡◌, ◌≢◌, ℕ, zero, suc, ◌+◌, ◌-◌, ◌*◌, ◌<◌, ◌≤◌, Bool, true, false, cond, ◌||◌, ◌==◌, nat_lt, List, [], ◌∷◌, ◌++◌, length, refl, ap, ◌∙◌, sym, arith, rules, inl, inr, IsTrue, length-append}
use Rattle.std.proofs.lemmas.List.{append_assoc}
use Rattle.std.proofs.lemmas.Bool.Decides.{nat_tests}
use Rattle.std.proofs.lemmas.Bool.{eqb-true}
use Rattle.json_spans.specs.Bytes.{is_space, is_digit, is_hex, is_high, is_low, is_short, is_exponent}
use Rattle.json_spans.specs.Grammar.{Char, plain, short, unit, pair, char, chars, quoted, IsChar, AreChars, AreSpaces, is_d, is_surrogate, AreDigits, IsMinus, IsWhole, IsFraction, IsSigned, IsExponent, IsNumber, IsWord, Tree, word, number, text, empty_list, list, empty_object, object, Items, one, more, Members, one_member, more_members, spelling, items, members, IsTree, AreItems, AreMembers, depth, items_depth, members_depth}
use Rattle.json_spans.specs.Table.{step, after, begins, go_if, back, is_number_end}
use Rattle.json_spans.specs.Machine.{Outcome, ended, too_deep, Stack, top_of, finish, react, run, at_end}
use Rattle.json_spans.specs.declared.table.Mode.{Mode}
use Rattle.json_spans.specs.declared.table.Mode.TheVariants as mode
use Rattle.json_spans.specs.declared.table.Action.{Action}
use Rattle.json_spans.specs.declared.table.Action.TheVariants as does
use Rattle.json_spans.proofs.Forward.{on, byte, spaces, digits, over_end, over_at, stays_value, stays_after, value_begins, first_begins, name_begins, first_name_begins, stays_colon}

pub holding : {b : Bool} → b ≡ true → IsTrue b
holding h = search rules

no_end : (n : ℕ) (m : Mode) (s : Stack) (e : ℕ) → is_number_end m ≡ false → at_end n m s ≡ ended e → ⊥
no_end n m [] e f h = let g = rw f at h in cc
no_end n m (b ∷ s) e f h = cc

abbrev pub Headed : (ℕ → Type 0) → List ℕ → Type 0
Headed P [] = Unit {0}
Headed P (x ∷ xs) = P x

-- a list begins with these digits and no more
record Digits (xs : List ℕ) : Type 0 where
  ds : List ℕ
  rest : List ℕ
  is : xs ≡ ds ++ rest
  are : AreDigits ds
  over : Headed (λ x. is_digit x ≡ false) rest

more_digits : (x : ℕ) (xs : List ℕ) (b : Bool) → is_digit x ≡ b → Digits xs → Digits (x ∷ xs)
more_digits x xs true e d = record { ds = x ∷ d.ds; rest = d.rest; is = ap (λ z. x ∷ z) d.is; are = (holding e, d.are); over = d.over }
more_digits x xs false e d = record { ds = []; rest = x ∷ xs; is = refl; are = tt; over = e }

digits_of : (xs : List ℕ) → Digits xs
digits_of [] = record { ds = []; rest = []; is = refl; are = tt; over = tt }
digits_of (x ∷ xs) = more_digits x xs (is_digit x) refl (digits_of xs)

-- white space, and what begins with none
pub record Spaces (xs : List ℕ) : Type 0 where
  pub ws : List ℕ
  pub rest : List ℕ
  pub is : xs ≡ ws ++ rest
  pub are : AreSpaces ws
  pub over : Headed (λ x. is_space x ≡ false) rest

more_spaces : (x : ℕ) (xs : List ℕ) (b : Bool) → is_space x ≡ b → Spaces xs → Spaces (x ∷ xs)
more_spaces x xs true e d = record { ws = x ∷ d.ws; rest = d.rest; is = ap (λ z. x ∷ z) d.is; are = (holding e, d.are); over = d.over }
more_spaces x xs false e d = record { ws = []; rest = x ∷ xs; is = refl; are = tt; over = e }

pub spaces_of : (xs : List ℕ) → Spaces xs
spaces_of [] = record { ws = []; rest = []; is = refl; are = tt; over = tt }
spaces_of (x ∷ xs) = more_spaces x xs (is_space x) refl (spaces_of xs)

module _ (limit : ℕ) where
  -- what is left when a value is over
  abbrev pub Ends : ℕ → Stack → List ℕ → ℕ → Type 0
  Ends n s rest e = finish (n - length rest) false s (on limit n rest) ≡ ended e

  -- a byte that has to pass a test
  record Next (n : ℕ) (next : Mode) (naming : Bool) (s : Stack) (test : ℕ → Bool) (xs : List ℕ) (e : ℕ) : Type 0 where
    x : ℕ
    rest : List ℕ
    is : xs ≡ x ∷ rest
    passes : test x ≡ true
    goes : run limit n next naming s rest ≡ ended e

  module _ (n : ℕ) (naming : Bool) (s : Stack) (e : ℕ) where
    tested : (m next : Mode) (test : ℕ → Bool) (k : ℕ) (x : ℕ) (xs : List ℕ) (b : Bool) → test x ≡ b → step m naming (top_of s) x ≡ go_if b next k
        → run limit n m naming s (x ∷ xs) ≡ ended e → Next n next naming s test (x ∷ xs) e
    tested m next test k x xs true t st h = record { x = x; rest = xs; is = refl; passes = t; goes = sym (byte limit n m naming s x xs _ st) ∙ h }
    tested m next test k x xs false t st h = let g = sym (byte limit n m naming s x xs _ st) ∙ h in absurd (cc)

    gone_if : (m next : Mode) (test : ℕ → Bool) (k : ℕ) → ((x : ℕ) → step m naming (top_of s) x ≡ go_if (test x) next k) → is_number_end m ≡ false
        → (xs : List ℕ) → run limit n m naming s xs ≡ ended e → Next n next naming s test xs e
    unfolding run
    gone_if m next test k st f [] h = absurd (no_end n m s e f h)
    gone_if m next test k st f (x ∷ xs) h = tested m next test k x xs (test x) refl (st x) h

  -- ---- strings

  record TextBack (n : ℕ) (naming : Bool) (s : Stack) (xs : List ℕ) (e : ℕ) : Type 0 where
    cs : List Char
    rest : List ℕ
    is : xs ≡ chars cs ++ 34 ∷ rest
    are : AreChars cs
    goes : run limit n mode.Text naming s (34 ∷ rest) ≡ ended e

  with_char : (n : ℕ) (naming : Bool) (s : Stack) (e : ℕ) (c : Char) (xs ys : List ℕ) → IsChar c → xs ≡ char c ++ ys → TextBack n naming s ys e → TextBack n naming s xs e
  with_char n naming s e c xs ys h is t = record {
    cs = c ∷ t.cs;
    rest = t.rest;
    is = is ∙ ap (λ z. char c ++ z) t.is ∙ sym (append_assoc (char c) (chars t.cs) (34 ∷ t.rest));
    are = (h, t.are);
    goes = t.goes;
  }

  same_text : (n : ℕ) (naming : Bool) (s : Stack) (e : ℕ) (xs ys : List ℕ) → xs ≡ ys → TextBack n naming s ys e → TextBack n naming s xs e
  same_text n naming s e xs ys is t = record { cs = t.cs; rest = t.rest; is = is ∙ t.is; are = t.are; goes = t.goes }

  module _ (n : ℕ) (naming : Bool) (s : Stack) (e : ℕ) where
    -- the rest of four digits, behind the second
    abbrev Again : ℕ → Type 0
    Again k = (ys : List ℕ) → length ys ≤ k → run limit n mode.Text naming s ys ≡ ended e → TextBack n naming s ys e

    unit_back : (k a b : ℕ) (xs : List ℕ) → length xs ≤ k → Again k → is_hex a ≡ true → is_hex b ≡ true → is_surrogate a b ≡ false → run limit n mode.Hex2 naming s xs ≡ ended e
        → TextBack n naming s (92 ∷ 117 ∷ a ∷ b ∷ xs) e
    unit_back k a b xs le again ha hb lone h =
        let c = gone_if n naming s e mode.Hex2 mode.Hex1 is_hex 0 (λ x. refl) refl xs h in
        let d = gone_if n naming s e mode.Hex1 mode.Text is_hex 0 (λ x. refl) refl c.rest c.goes in
        let shorter : length d.rest ≤ k = omega (arith, ap length c.is, ap length d.is) in
        with_char n naming s e (unit a b c.x d.x) _ d.rest (holding ha, holding hb, holding c.passes, holding d.passes, lone)
        (ap (λ z. 92 ∷ 117 ∷ a ∷ b ∷ z) (c.is ∙ ap (λ z. c.x ∷ z) d.is)) (again d.rest shorter d.goes)

    pair_back : (k a b : ℕ) (xs : List ℕ) → length xs ≤ k → Again k → is_d a ≡ true → is_high b ≡ true → run limit n mode.High2 naming s xs ≡ ended e
        → TextBack n naming s (92 ∷ 117 ∷ a ∷ b ∷ xs) e
    pair_back k a b xs le again ha hb h =
        let c = gone_if n naming s e mode.High2 mode.High1 is_hex 0 (λ x. refl) refl xs h in
        let d = gone_if n naming s e mode.High1 mode.Pair6 is_hex 0 (λ x. refl) refl c.rest c.goes in
        let p = gone_if n naming s e mode.Pair6 mode.Pair5 (λ x. x == 92) 6 (λ x. refl) refl d.rest d.goes in
        let q = gone_if n naming s e mode.Pair5 mode.Pair4 (λ x. x == 117) 7 (λ x. refl) refl p.rest p.goes in
        let i = gone_if n naming s e mode.Pair4 mode.Pair3 is_d 8 (λ x. refl) refl q.rest q.goes in
        let f = gone_if n naming s e mode.Pair3 mode.Pair2 is_low 9 (λ x. refl) refl i.rest i.goes in
        let g = gone_if n naming s e mode.Pair2 mode.Pair1 is_hex 10 (λ x. refl) refl f.rest f.goes in
        let j = gone_if n naming s e mode.Pair1 mode.Text is_hex 11 (λ x. refl) refl g.rest g.goes in
        let shorter : length j.rest ≤ k = omega (arith, ap length c.is, ap length d.is, ap length p.is, ap length q.is, ap length i.is, ap length f.is, ap length g.is, ap length j.is) in
        let backslash : p.x ≡ 92 = eqb-true p.x 92 p.passes in
        let letter : q.x ≡ 117 = eqb-true q.x 117 q.passes in
        let all : xs ≡ c.x ∷ d.x ∷ 92 ∷ 117 ∷ i.x ∷ f.x ∷ g.x ∷ j.x ∷ j.rest =
        c.is ∙ ap (λ z. c.x ∷ z) (d.is ∙ ap (λ z. d.x ∷ z) (p.is ∙ ap (λ y. y ∷ p.rest) backslash ∙ ap (λ z. 92 ∷ z) (q.is ∙ ap (λ y. y ∷ q.rest) letter ∙ ap (λ z. 117 ∷ z)
        (i.is ∙ ap (λ z. i.x ∷ z) (f.is ∙ ap (λ z. f.x ∷ z) (g.is ∙ ap (λ z. g.x ∷ z) j.is)))))) in
        with_char n naming s e (pair a b c.x d.x i.x f.x g.x j.x) _ j.rest
        ((holding ha, holding hb, holding c.passes, holding d.passes), (holding i.passes, holding f.passes, holding g.passes, holding j.passes))
        (ap (λ z. 92 ∷ 117 ∷ a ∷ b ∷ z) all) (again j.rest shorter j.goes)

    low_last : (ys : List ℕ) → run limit n mode.Low1 naming s ys ≡ ended e → ⊥
    unfolding run
    low_last [] g = no_end n mode.Low1 s e refl g
    low_last (y ∷ ys) g = cc

    low_back : (xs : List ℕ) → run limit n mode.Low2 naming s xs ≡ ended e → ⊥
    low_back xs h = let d = gone_if n naming s e mode.Low2 mode.Low1 is_hex 0 (λ x. refl) refl xs h in low_last d.rest d.goes

    d_back : (k a : ℕ) (b : ℕ) (xs : List ℕ) → length xs ≤ k → Again k → is_d a ≡ true → (hb lb xb : Bool) → is_high b ≡ hb → is_low b ≡ lb → is_hex b ≡ xb
        → run limit n mode.HexD naming s (b ∷ xs) ≡ ended e → TextBack n naming s (92 ∷ 117 ∷ a ∷ b ∷ xs) e
    d_back k a b xs le again ha true lb xb hh hl hx h = pair_back k a b xs le again ha hh (sym (byte limit n mode.HexD naming s b xs (does.Go mode.High2) (rw hh)) ∙ h)
    d_back k a b xs le again ha false true xb hh hl hx h = absurd (low_back xs (sym (byte limit n mode.HexD naming s b xs (does.Go mode.Low2) (rw (hh, hl))) ∙ h))
    d_back k a b xs le again ha false false true hh hl hx h =
        unit_back k a b xs le again (d_is_hex a ha) hx (rw (hh, hl, ha)) (sym (byte limit n mode.HexD naming s b xs (does.Go mode.Hex2) (rw (hh, hl, hx))) ∙ h)
      where
        d_is_hex : (a : ℕ) → is_d a ≡ true → is_hex a ≡ true
        d_is_hex a ha = grind (arith, nat_tests)
    d_back k a b xs le again ha false false false hh hl hx h = let g = sym (byte limit n mode.HexD naming s b xs (does.Stop 0) (rw (hh, hl, hx))) ∙ h in absurd (cc)

    hex_back : (k a b : ℕ) (xs : List ℕ) → length xs ≤ k → Again k → (da xa : Bool) → is_d a ≡ da → is_hex a ≡ xa → run limit n mode.Hex4 naming s (a ∷ b ∷ xs) ≡ ended e
        → TextBack n naming s (92 ∷ 117 ∷ a ∷ b ∷ xs) e
    hex_back k a b xs le again true xa ha hx h = d_back k a b xs le again ha _ _ _ refl refl refl (sym (byte limit n mode.Hex4 naming s a (b ∷ xs) (does.Go mode.HexD) (rw ha)) ∙ h)
    hex_back k a b xs le again false true ha hx h =
        let c = gone_if n naming s e mode.Hex3 mode.Hex2 is_hex 0 (λ x. refl) refl (b ∷ xs) (sym (byte limit n mode.Hex4 naming s a (b ∷ xs) (does.Go mode.Hex3) (rw (ha, hx))) ∙ h) in
        let same : (b ≡ c.x) × (xs ≡ c.rest) = (cc, cc) in
        unit_back k a b xs le again hx (ap is_hex same.0 ∙ c.passes) (rw ha) (ap (run limit n mode.Hex2 naming s) same.1 ∙ c.goes)
    hex_back k a b xs le again false false ha hx h = let g = sym (byte limit n mode.Hex4 naming s a (b ∷ xs) (does.Stop 0) (rw (ha, hx))) ∙ h in absurd (cc)

    u_back : (k : ℕ) (xs : List ℕ) → length xs ≤ k → Again k → run limit n mode.Hex4 naming s xs ≡ ended e → TextBack n naming s (92 ∷ 117 ∷ xs) e
    unfolding run
    u_back k [] le again h = absurd (no_end n mode.Hex4 s e refl h)
    u_back k (a ∷ []) le again h = absurd (one_digit (is_d a) (is_hex a) refl refl)
      where
        one_digit : (da xa : Bool) → is_d a ≡ da → is_hex a ≡ xa → ⊥
        one_digit true xa ha hx = no_end n mode.HexD s e refl (sym (byte limit n mode.Hex4 naming s a [] (does.Go mode.HexD) (rw ha)) ∙ h)
        one_digit false true ha hx = no_end n mode.Hex3 s e refl (sym (byte limit n mode.Hex4 naming s a [] (does.Go mode.Hex3) (rw (ha, hx))) ∙ h)
        one_digit false false ha hx = let g = sym (byte limit n mode.Hex4 naming s a [] (does.Stop 0) (rw (ha, hx))) ∙ h in cc
    u_back k (a ∷ b ∷ xs) le again h = hex_back k a b xs (omega arith) again _ _ refl refl h

    escape_back : (k x : ℕ) (xs : List ℕ) → length xs ≤ k → Again k → (b c : Bool) → is_short x ≡ b → (x == 117) ≡ c → run limit n mode.Escape naming s (x ∷ xs) ≡ ended e → TextBack n naming s (92 ∷ x ∷ xs) e
    escape_back k x xs le again true c hb hc h =
        with_char n naming s e (short x) _ xs (holding hb) refl (again xs le (sym (byte limit n mode.Escape naming s x xs (does.Go mode.Text) (rw hb)) ∙ h))
    escape_back k x xs le again false true hb hc h =
        let is : x ≡ 117 = eqb-true x 117 hc in
        let t = u_back k xs le again (sym (byte limit n mode.Escape naming s x xs (does.Go mode.Hex4) (rw (hb, hc))) ∙ h) in
        same_text n naming s e _ _ (ap (λ x. 92 ∷ x ∷ xs) is) t
    escape_back k x xs le again false false hb hc h = let g = sym (byte limit n mode.Escape naming s x xs (does.Stop 0) (rw (hb, hc))) ∙ h in absurd (cc)

    backslash_back : (k : ℕ) (xs : List ℕ) → length xs ≤ k → Again k → run limit n mode.Escape naming s xs ≡ ended e → TextBack n naming s (92 ∷ xs) e
    unfolding run
    backslash_back k [] le again h = absurd (no_end n mode.Escape s e refl h)
    backslash_back k (x ∷ xs) le again h = escape_back k x xs (omega arith) again _ _ refl refl h

    char_back : (k x : ℕ) (xs : List ℕ) → length xs ≤ k → Again k → (q b c : Bool) → (x == 34) ≡ q → (x == 92) ≡ b → nat_lt x 32 ≡ c → run limit n mode.Text naming s (x ∷ xs) ≡ ended e → TextBack n naming s (x ∷ xs) e
    char_back k x xs le again true b c hq hb hc h =
        let is : x ≡ 34 = eqb-true x 34 hq in
        record { cs = []; rest = xs; is = ap (λ x. x ∷ xs) is; are = tt; goes = ap (λ x. run limit n mode.Text naming s (x ∷ xs)) (sym is) ∙ h }
    char_back k x xs le again false true c hq hb hc h =
        let is : x ≡ 92 = eqb-true x 92 hb in
        let t = backslash_back k xs le again (sym (byte limit n mode.Text naming s x xs (does.Go mode.Escape) (rw (hq, hb))) ∙ h) in
        same_text n naming s e _ _ (ap (λ x. x ∷ xs) is) t
    char_back k x xs le again false false true hq hb hc h = let g = sym (byte limit n mode.Text naming s x xs (does.Stop 0) (rw (hq, hb, hc))) ∙ h in absurd (cc)
    char_back k x xs le again false false false hq hb hc h =
        with_char n naming s e (plain x) _ xs (not_eq x 34 hq, not_eq x 92 hb, not_less x hc) refl (again xs le (sym (byte limit n mode.Text naming s x xs (does.Go mode.Text) (rw (hq, hb, hc))) ∙ h))
      where
        not_eq : (x y : ℕ) → (x == y) ≡ false → x ≢ y
        not_eq x y f = grind (arith, nat_tests)

        not_less : (x : ℕ) → nat_lt x 32 ≡ false → 32 ≤ x
        not_less x f = grind (arith, nat_tests)

    text_back : (k : ℕ) → Again k
    unfolding run
    text_back k [] le h = absurd (no_end n mode.Text s e refl h)
    text_back zero (x ∷ xs) le h = absurd (omega arith)
    text_back (suc k) (x ∷ xs) le h = char_back k x xs (omega arith) (text_back k) _ _ _ refl refl refl h

  -- ---- the three literal names

  record WordBack (n : ℕ) (s : Stack) (x : ℕ) (xs : List ℕ) (w : List ℕ) (e : ℕ) : Type 0 where
    rest : List ℕ
    is : x ∷ xs ≡ w ++ rest
    goes : Ends n s rest e

  module _ (n : ℕ) (s : Stack) (e : ℕ) where
    record LastBack (test : ℕ → Bool) (xs : List ℕ) : Type 0 where
      x : ℕ
      rest : List ℕ
      is : xs ≡ x ∷ rest
      passes : test x ≡ true
      goes : Ends n s rest e

    last_tested : (m : Mode) (test : ℕ → Bool) (x : ℕ) (xs : List ℕ) (b : Bool) → test x ≡ b → step m false (top_of s) x ≡ cond b does.Done (does.Stop 0)
        → run limit n m false s (x ∷ xs) ≡ ended e → LastBack test (x ∷ xs)
    last_tested m test x xs true t st h = record { x = x; rest = xs; is = refl; passes = t; goes = sym (byte limit n m false s x xs _ st) ∙ h }
    last_tested m test x xs false t st h = let g = sym (byte limit n m false s x xs _ st) ∙ h in absurd (cc)

    done_if : (m : Mode) (test : ℕ → Bool) → ((x : ℕ) → step m false (top_of s) x ≡ cond (test x) does.Done (does.Stop 0)) → is_number_end m ≡ false
        → (xs : List ℕ) → run limit n m false s xs ≡ ended e → LastBack test xs
    unfolding run
    done_if m test st f [] h = absurd (no_end n m s e f h)
    done_if m test st f (x ∷ xs) h = last_tested m test x xs (test x) refl (st x) h

    true_back : (xs : List ℕ) → run limit n mode.True3 false s xs ≡ ended e → WordBack n s 116 xs (116 ∷ 114 ∷ 117 ∷ 101 ∷ []) e
    true_back xs h =
        let a = gone_if n false s e mode.True3 mode.True2 (λ x. x == 114) 0 (λ x. refl) refl xs h in
        let b = gone_if n false s e mode.True2 mode.True1 (λ x. x == 117) 0 (λ x. refl) refl a.rest a.goes in
        let c = done_if mode.True1 (λ x. x == 101) (λ x. refl) refl b.rest b.goes in
        let e1 : a.x ≡ 114 = eqb-true a.x 114 a.passes in
        let e2 : b.x ≡ 117 = eqb-true b.x 117 b.passes in
        let e3 : c.x ≡ 101 = eqb-true c.x 101 c.passes in
        record { rest = c.rest; goes = c.goes; is = ap (λ z. 116 ∷ z) (a.is ∙ ap (λ y. y ∷ a.rest) e1 ∙ ap (λ z. 114 ∷ z) (b.is ∙ ap (λ y. y ∷ b.rest) e2 ∙ ap (λ z. 117 ∷ z) (c.is ∙ ap (λ y. y ∷ c.rest) e3))) }

    false_back : (xs : List ℕ) → run limit n mode.False4 false s xs ≡ ended e → WordBack n s 102 xs (102 ∷ 97 ∷ 108 ∷ 115 ∷ 101 ∷ []) e
    false_back xs h =
        let a = gone_if n false s e mode.False4 mode.False3 (λ x. x == 97) 0 (λ x. refl) refl xs h in
        let b = gone_if n false s e mode.False3 mode.False2 (λ x. x == 108) 0 (λ x. refl) refl a.rest a.goes in
        let c = gone_if n false s e mode.False2 mode.False1 (λ x. x == 115) 0 (λ x. refl) refl b.rest b.goes in
        let d = done_if mode.False1 (λ x. x == 101) (λ x. refl) refl c.rest c.goes in
        let e1 : a.x ≡ 97 = eqb-true a.x 97 a.passes in
        let e2 : b.x ≡ 108 = eqb-true b.x 108 b.passes in
        let e3 : c.x ≡ 115 = eqb-true c.x 115 c.passes in
        let e4 : d.x ≡ 101 = eqb-true d.x 101 d.passes in
        record { rest = d.rest; goes = d.goes; is = ap (λ z. 102 ∷ z) (a.is ∙ ap (λ y. y ∷ a.rest) e1 ∙ ap (λ z. 97 ∷ z) (b.is ∙ ap (λ y. y ∷ b.rest) e2 ∙ ap (λ z. 108 ∷ z) (c.is ∙ ap (λ y. y ∷ c.rest) e3 ∙ ap (λ z. 115 ∷ z) (d.is ∙ ap (λ y. y ∷ d.rest) e4)))) }

    null_back : (xs : List ℕ) → run limit n mode.Null3 false s xs ≡ ended e → WordBack n s 110 xs (110 ∷ 117 ∷ 108 ∷ 108 ∷ []) e
    null_back xs h =
        let a = gone_if n false s e mode.Null3 mode.Null2 (λ x. x == 117) 0 (λ x. refl) refl xs h in
        let b = gone_if n false s e mode.Null2 mode.Null1 (λ x. x == 108) 0 (λ x. refl) refl a.rest a.goes in
        let c = done_if mode.Null1 (λ x. x == 108) (λ x. refl) refl b.rest b.goes in
        let e1 : a.x ≡ 117 = eqb-true a.x 117 a.passes in
        let e2 : b.x ≡ 108 = eqb-true b.x 108 b.passes in
        let e3 : c.x ≡ 108 = eqb-true c.x 108 c.passes in
        record { rest = c.rest; goes = c.goes; is = ap (λ z. 110 ∷ z) (a.is ∙ ap (λ y. y ∷ a.rest) e1 ∙ ap (λ z. 117 ∷ z) (b.is ∙ ap (λ y. y ∷ b.rest) e2 ∙ ap (λ z. 108 ∷ z) (c.is ∙ ap (λ y. y ∷ c.rest) e3))) }

  module _ (n : ℕ) (s : Stack) (e : ℕ) where
    record ExponentBack (xs : List ℕ) : Type 0 where
      exponent : List ℕ
      rest : List ℕ
      is : xs ≡ exponent ++ rest
      is_exponent : IsExponent exponent
      goes : Ends n s rest e

    record SignedBack (xs : List ℕ) : Type 0 where
      signed : List ℕ
      rest : List ℕ
      is : xs ≡ signed ++ rest
      is_signed : IsSigned signed
      goes : Ends n s rest e

    -- what is over where nothing goes on
    over_goes : (m : Mode) → is_number_end m ≡ true → back m ≡ 0 → (xs : List ℕ) → Headed (λ x. step m false (top_of s) x ≡ after (top_of s) x) xs → run limit n m false s xs ≡ ended e → Ends n s xs e
    over_goes m f g [] st h = sym (over_end limit n m s f g) ∙ h
    over_goes m f g (x ∷ xs) st h = sym (over_at limit n m s x xs st) ∙ h

    digits_over : (xs : List ℕ) → Headed (λ x. is_digit x ≡ false) xs → Headed (λ x. step mode.ExponentDigits false (top_of s) x ≡ after (top_of s) x) xs
    digits_over [] h = tt
    digits_over (x ∷ xs) h = rw h

    digits_back : (xs : List ℕ) → run limit n mode.ExponentDigits false s xs ≡ ended e → (d : Digits xs) → Ends n s d.rest e
    digits_back xs h d =
        over_goes mode.ExponentDigits refl refl d.rest (digits_over d.rest d.over)
        (sym (digits limit n mode.ExponentDigits s (λ x e. rw e) d.ds d.rest d.are) ∙ ap (run limit n mode.ExponentDigits false s) (sym d.is) ∙ h)

    signed_first : (x : ℕ) (xs : List ℕ) (b c : Bool) → ((x == 43) || (x == 45)) ≡ b → is_digit x ≡ c → run limit n mode.Exponent false s (x ∷ xs) ≡ ended e → SignedBack (x ∷ xs)
    signed_first x xs true c hb hc h =
        let f = gone_if n false s e mode.ExponentSign mode.ExponentDigits is_digit 0 (λ x. refl) refl xs (sym (byte limit n mode.Exponent false s x xs (does.Go mode.ExponentSign) (rw hb)) ∙ h) in
        let d = digits_of f.rest in
        record { signed = x ∷ f.x ∷ d.ds; rest = d.rest; is = ap (λ z. x ∷ z) (f.is ∙ ap (λ z. f.x ∷ z) d.is); is_signed = inl (holding hb, (holding f.passes, d.are)); goes = digits_back f.rest f.goes d }
    signed_first x xs false true hb hc h =
        let d = digits_of xs in
        record {
          signed = x ∷ d.ds;
          rest = d.rest;
          is = ap (λ z. x ∷ z) d.is;
          is_signed = inr (holding hc, d.are);
          goes = digits_back xs (sym (byte limit n mode.Exponent false s x xs (does.Go mode.ExponentDigits) (rw (hb, hc))) ∙ h) d;
        }
    signed_first x xs false false hb hc h = let g = sym (byte limit n mode.Exponent false s x xs (does.Stop 0) (rw (hb, hc))) ∙ h in absurd (cc)

    signed_back : (xs : List ℕ) → run limit n mode.Exponent false s xs ≡ ended e → SignedBack xs
    unfolding run
    signed_back [] h = absurd (no_end n mode.Exponent s e refl h)
    signed_back (x ∷ xs) h = signed_first x xs _ _ refl refl h

    -- what a mode does at the end of a number's digits
    abbrev Goes : Mode → List ℕ → Type 0
    Goes m = Headed (λ x. (is_exponent x ≡ true → step m false (top_of s) x ≡ does.Go mode.Exponent) × (is_exponent x ≡ false → step m false (top_of s) x ≡ after (top_of s) x))

    exponent_first : (m : Mode) → is_number_end m ≡ true → back m ≡ 0 → (x : ℕ) (xs : List ℕ) (b : Bool) → is_exponent x ≡ b → Goes m (x ∷ xs) → run limit n m false s (x ∷ xs) ≡ ended e → ExponentBack (x ∷ xs)
    exponent_first m f g x xs true hb go h =
        let t = signed_back xs (sym (byte limit n m false s x xs _ (go.0 hb)) ∙ h) in
        record { exponent = x ∷ t.signed; rest = t.rest; is = ap (λ z. x ∷ z) t.is; is_exponent = (holding hb, t.is_signed); goes = t.goes }
    exponent_first m f g x xs false hb go h = record { exponent = []; rest = x ∷ xs; is = refl; is_exponent = tt; goes = over_goes m f g (x ∷ xs) (go.1 hb) h }

    exponent_back : (m : Mode) → is_number_end m ≡ true → back m ≡ 0 → (xs : List ℕ) → Goes m xs → run limit n m false s xs ≡ ended e → ExponentBack xs
    exponent_back m f g [] go h = record { exponent = []; rest = []; is = refl; is_exponent = tt; goes = over_goes m f g [] tt h }
    exponent_back m f g (x ∷ xs) go h = exponent_first m f g x xs _ refl go h

    record FractionBack (xs : List ℕ) : Type 0 where
      fraction : List ℕ
      exponent : List ℕ
      rest : List ℕ
      is : xs ≡ fraction ++ (exponent ++ rest)
      is_fraction : IsFraction fraction
      is_exponent : IsExponent exponent
      goes : Ends n s rest e

    fraction_goes : (xs : List ℕ) → Headed (λ x. is_digit x ≡ false) xs → Goes mode.Fraction xs
    fraction_goes [] h = tt
    fraction_goes (x ∷ xs) h = (λ e. rw (h, e), λ e. rw (h, e))

    -- a mode that goes on with a fraction
    abbrev GoesOn : Mode → List ℕ → Type 0
    GoesOn m = Headed (λ x. ((x == 46) ≡ true → step m false (top_of s) x ≡ does.Go mode.Point)
        × ((x == 46) ≡ false → (is_exponent x ≡ true → step m false (top_of s) x ≡ does.Go mode.Exponent) × (is_exponent x ≡ false → step m false (top_of s) x ≡ after (top_of s) x)))

    fraction_first : (m : Mode) → is_number_end m ≡ true → back m ≡ 0 → (x : ℕ) (xs : List ℕ) (b : Bool) → (x == 46) ≡ b → GoesOn m (x ∷ xs) → run limit n m false s (x ∷ xs) ≡ ended e → FractionBack (x ∷ xs)
    fraction_first m f g x xs true hb go h =
        let t = gone_if n false s e mode.Point mode.Fraction is_digit 0 (λ x. refl) refl xs (sym (byte limit n m false s x xs _ (go.0 hb)) ∙ h) in
        let d = digits_of t.rest in
        let p = exponent_back mode.Fraction refl refl d.rest (fraction_goes d.rest d.over) (sym (digits limit n mode.Fraction s (λ x e. rw e) d.ds d.rest d.are) ∙ ap (run limit n mode.Fraction false s) (sym d.is) ∙ t.goes) in
        record {
          fraction = x ∷ t.x ∷ d.ds;
          exponent = p.exponent;
          rest = p.rest;
          is = ap (λ z. x ∷ z) (t.is ∙ ap (λ z. t.x ∷ z) (d.is ∙ ap (λ z. d.ds ++ z) p.is));
          is_fraction = (eqb-true x 46 hb, (holding t.passes, d.are));
          is_exponent = p.is_exponent;
          goes = p.goes;
        }
    fraction_first m f g x xs false hb go h =
        let p = exponent_back m f g (x ∷ xs) (go.1 hb) h in
        record { fraction = []; exponent = p.exponent; rest = p.rest; is = p.is; is_fraction = tt; is_exponent = p.is_exponent; goes = p.goes }

    fraction_back : (m : Mode) → is_number_end m ≡ true → back m ≡ 0 → (xs : List ℕ) → GoesOn m xs → run limit n m false s xs ≡ ended e → FractionBack xs
    fraction_back m f g [] go h = record { fraction = []; exponent = []; rest = []; is = refl; is_fraction = tt; is_exponent = tt; goes = over_goes m f g [] tt h }
    fraction_back m f g (x ∷ xs) go h = fraction_first m f g x xs _ refl go h

    zero_goes : (xs : List ℕ) → GoesOn mode.Zero xs
    zero_goes [] = tt
    zero_goes (x ∷ xs) = (λ e. rw e, λ p. (λ e. rw (p, e), λ e. rw (p, e)))

    whole_goes : (xs : List ℕ) → Headed (λ x. is_digit x ≡ false) xs → GoesOn mode.Whole xs
    whole_goes [] h = tt
    whole_goes (x ∷ xs) h = (λ e. rw (h, e), λ p. (λ e. rw (h, p, e), λ e. rw (h, p, e)))

    record NumberBack (xs : List ℕ) : Type 0 where
      num : List ℕ
      rest : List ℕ
      is : xs ≡ num ++ rest
      is_number : IsNumber num
      goes : Ends n s rest e

    -- a number behind its minus, if it has one
    made : (i w xs ys : List ℕ) → IsMinus i → IsWhole w → xs ≡ i ++ (w ++ ys) → FractionBack ys → NumberBack xs
    made i w xs ys hi hw is t =
        let apart : (i ++ (w ++ (t.fraction ++ t.exponent))) ++ t.rest ≡ i ++ (w ++ (t.fraction ++ (t.exponent ++ t.rest))) = simp append_assoc in
        record {
          num = i ++ (w ++ (t.fraction ++ t.exponent));
          rest = t.rest;
          is = is ∙ ap (λ z. i ++ (w ++ z)) t.is ∙ sym apart;
          is_number = record { minus = i; whole = w; fraction = t.fraction; exponent = t.exponent; is = refl; is_minus = hi; is_whole = hw; is_fraction = t.is_fraction; is_exponent = t.is_exponent };
          goes = t.goes;
        }

    zero_back : (i xs ys : List ℕ) → IsMinus i → xs ≡ i ++ 48 ∷ ys → run limit n mode.Zero false s ys ≡ ended e → NumberBack xs
    zero_back i xs ys hi is h = made i (48 ∷ []) xs ys hi (inl (refl, refl)) is (fraction_back mode.Zero refl refl ys (zero_goes ys) h)

    whole_back : (i xs : List ℕ) (x : ℕ) (ys : List ℕ) → IsMinus i → xs ≡ i ++ x ∷ ys → is_digit x ≡ true → x ≢ 48 → run limit n mode.Whole false s ys ≡ ended e → NumberBack xs
    whole_back i xs x ys hi is digit ne h =
        let d = digits_of ys in
        made i (x ∷ d.ds) xs d.rest hi (inr (ne, holding digit, d.are)) (is ∙ ap (λ z. i ++ x ∷ z) d.is)
        (fraction_back mode.Whole refl refl d.rest (whole_goes d.rest d.over) (sym (digits limit n mode.Whole s (λ x e. rw e) d.ds d.rest d.are) ∙ ap (run limit n mode.Whole false s) (sym d.is) ∙ h))

    minus_first : (x : ℕ) (ys : List ℕ) (b c : Bool) → (x == 48) ≡ b → is_digit x ≡ c → run limit n mode.Minus false s (x ∷ ys) ≡ ended e → NumberBack (45 ∷ x ∷ ys)
    minus_first x ys true c hb hc h =
        zero_back (45 ∷ []) (45 ∷ x ∷ ys) ys (inr refl) (ap (λ x. 45 ∷ x ∷ ys) (eqb-true x 48 hb)) (sym (byte limit n mode.Minus false s x ys (does.Go mode.Zero) (rw hb)) ∙ h)
    minus_first x ys false true hb hc h =
        whole_back (45 ∷ []) (45 ∷ x ∷ ys) x ys (inr refl) refl hc (not_zero x hb) (sym (byte limit n mode.Minus false s x ys (does.Go mode.Whole) (rw (hb, hc))) ∙ h)
      where
        not_zero : (x : ℕ) → (x == 48) ≡ false → x ≢ 48
        not_zero x f = grind (arith, nat_tests)
    minus_first x ys false false hb hc h = let g = sym (byte limit n mode.Minus false s x ys (does.Stop 0) (rw (hb, hc))) ∙ h in absurd (cc)

    minus_back : (ys : List ℕ) → run limit n mode.Minus false s ys ≡ ended e → NumberBack (45 ∷ ys)
    unfolding run
    minus_back [] h = absurd (no_end n mode.Minus s e refl h)
    minus_back (x ∷ ys) h = minus_first x ys _ _ refl refl h

  past_spaces : (n : ℕ) (m : Mode) (naming : Bool) (s : Stack) (e : ℕ) → ((x : ℕ) → is_space x ≡ true → step m naming (top_of s) x ≡ does.Go m) → (xs : List ℕ) → (w : Spaces xs)
      → run limit n m naming s xs ≡ ended e → run limit n m naming s w.rest ≡ ended e
  past_spaces n m naming s e stays xs w h = sym (spaces limit n m naming s stays w.ws w.rest w.are) ∙ ap (run limit n m naming s) (sym w.is) ∙ h

  pub record ValueBack (n : ℕ) (s : Stack) (xs : List ℕ) (e : ℕ) : Type 0 where
    pub v : Tree
    pub rest : List ℕ
    pub is : xs ≡ spelling v ++ rest
    pub is_tree : IsTree v
    pub fits : depth v + length s ≤ limit
    pub goes : Ends n s rest e

  record ItemsBack (n : ℕ) (s : Stack) (xs : List ℕ) (e : ℕ) : Type 0 where
    is_ : Items
    rest : List ℕ
    is : xs ≡ items is_ ++ 93 ∷ rest
    are : AreItems is_
    fits : items_depth is_ + length (false ∷ s) ≤ limit
    goes : Ends n s rest e

  record MembersBack (n : ℕ) (s : Stack) (xs : List ℕ) (e : ℕ) : Type 0 where
    ms : Members
    rest : List ℕ
    is : xs ≡ members ms ++ 125 ∷ rest
    are : AreMembers ms
    fits : members_depth ms + length (true ∷ s) ≤ limit
    goes : Ends n s rest e

  -- a value begins at x
  record Begun (n : ℕ) (s : Stack) (m : Mode) (x : ℕ) (xs : List ℕ) (e : ℕ) : Type 0 where
    no_space : is_space x ≡ false
    deep : length s ≤ limit
    begins_here : step m false (top_of s) x ≡ begins m x
    goes : run limit n m false s (x ∷ xs) ≡ ended e

  -- a name begins at x
  record BegunName (n : ℕ) (s : Stack) (m : Mode) (x : ℕ) (xs : List ℕ) (e : ℕ) : Type 0 where
    no_space : is_space x ≡ false
    deep : length s ≤ limit
    begins_here : step m false (top_of s) x ≡ cond (x == 34) does.Name (does.Stop 0)
    goes : run limit n m false s (x ∷ xs) ≡ ended e

  module _ (n e : ℕ) where
    -- what is shown of texts that are short enough
    record Backs (k : ℕ) : Type 0 where
      value : (s : Stack) (m : Mode) (x : ℕ) (xs : List ℕ) → 2 * length (x ∷ xs) ≤ k → Begun n s m x xs e → ValueBack n s (x ∷ xs) e
      items_ : (s : Stack) (m : Mode) (a : List ℕ) (x : ℕ) (xs : List ℕ) → 2 * length (x ∷ xs) + 1 ≤ k → AreSpaces a → Begun n (false ∷ s) m x xs e → ItemsBack n s (a ++ x ∷ xs) e
      members_ : (s : Stack) (m : Mode) (a : List ℕ) (x : ℕ) (xs : List ℕ) → 2 * length (x ∷ xs) + 1 ≤ k → AreSpaces a → BegunName n (true ∷ s) m x xs e → MembersBack n s (a ++ x ∷ xs) e

    opened : (s : Stack) (t : Bool) (p : ℕ) (o : Outcome) → nat_lt (length s) limit ≡ t → cond t o (too_deep p) ≡ ended e → (length s < limit) × (o ≡ ended e)
    opened s true p o h g = (less (length s) h, g)
      where
        less : (l : ℕ) → nat_lt l limit ≡ true → l < limit
        less l f = grind (arith, nat_tests)
    opened s false p o h g = absurd (cc)

    module _ (k : ℕ) (hyp : Backs k) where
      -- ---- lists

      list_first : (s : Stack) (xs ws : List ℕ) (y : ℕ) (ys : List ℕ) (c : Bool) → length s < limit → 2 * length xs + 1 ≤ k → xs ≡ ws ++ y ∷ ys → AreSpaces ws → is_space y ≡ false → (y == 93) ≡ c
          → run limit n mode.ValueOrClose false (false ∷ s) (y ∷ ys) ≡ ended e → ValueBack n s (91 ∷ xs) e
      list_first s xs ws y ys true room le is are over hc h =
          let same : y ≡ 93 = eqb-true y 93 hc in
          let apart : (ws ++ 93 ∷ []) ++ ys ≡ ws ++ 93 ∷ ys = simp append_assoc in
          record {
            v = empty_list ws;
            rest = ys;
            is = ap (λ z. 91 ∷ z) (is ∙ ap (λ y. ws ++ y ∷ ys) same ∙ sym apart);
            is_tree = are;
            fits = omega arith;
            goes = sym (byte limit n mode.ValueOrClose false (false ∷ s) y ys does.Close (rw hc)) ∙ h;
          }
      list_first s xs ws y ys false room le is are over hc h =
          let t = hyp.items_ s mode.ValueOrClose ws y ys (omega (arith, ap length is, length-append ws (y ∷ ys))) are (record { no_space = over; deep = omega arith; begins_here = rw hc; goes = h }) in
          let apart : (items t.is_ ++ 93 ∷ []) ++ t.rest ≡ items t.is_ ++ 93 ∷ t.rest = simp append_assoc in
          record {
            v = list t.is_;
            rest = t.rest;
            is = ap (λ z. 91 ∷ z) (is ∙ t.is ∙ sym apart);
            is_tree = t.are;
            fits = omega (arith, t.fits);
            goes = t.goes;
          }

      list_spaced : (s : Stack) (xs ws rest : List ℕ) → length s < limit → 2 * length xs + 1 ≤ k → xs ≡ ws ++ rest → AreSpaces ws → Headed (λ x. is_space x ≡ false) rest
          → run limit n mode.ValueOrClose false (false ∷ s) rest ≡ ended e → ValueBack n s (91 ∷ xs) e
      unfolding run
      list_spaced s xs ws [] room le is are over h = absurd (no_end n mode.ValueOrClose (false ∷ s) e refl h)
      list_spaced s xs ws (y ∷ ys) room le is are over h = list_first s xs ws y ys _ room le is are over refl h

      list_back : (s : Stack) (xs : List ℕ) → length s < limit → 2 * length xs + 1 ≤ k → run limit n mode.ValueOrClose false (false ∷ s) xs ≡ ended e → ValueBack n s (91 ∷ xs) e
      list_back s xs room le h =
          let w = spaces_of xs in
          list_spaced s xs w.ws w.rest room le w.is w.are w.over (past_spaces n mode.ValueOrClose false (false ∷ s) e (stays_value (false ∷ s) mode.ValueOrClose (first_begins (false ∷ s))) xs w h)

      -- ---- objects

      object_first : (s : Stack) (xs ws : List ℕ) (y : ℕ) (ys : List ℕ) (c : Bool) → length s < limit → 2 * length xs + 1 ≤ k → xs ≡ ws ++ y ∷ ys → AreSpaces ws → is_space y ≡ false → (y == 125) ≡ c
          → run limit n mode.NameOrClose false (true ∷ s) (y ∷ ys) ≡ ended e → ValueBack n s (123 ∷ xs) e
      object_first s xs ws y ys true room le is are over hc h =
          let same : y ≡ 125 = eqb-true y 125 hc in
          let apart : (ws ++ 125 ∷ []) ++ ys ≡ ws ++ 125 ∷ ys = simp append_assoc in
          record {
            v = empty_object ws;
            rest = ys;
            is = ap (λ z. 123 ∷ z) (is ∙ ap (λ y. ws ++ y ∷ ys) same ∙ sym apart);
            is_tree = are;
            fits = omega arith;
            goes = sym (byte limit n mode.NameOrClose false (true ∷ s) y ys does.Close (rw hc)) ∙ h;
          }
      object_first s xs ws y ys false room le is are over hc h =
          let t = hyp.members_ s mode.NameOrClose ws y ys (omega (arith, ap length is, length-append ws (y ∷ ys))) are (record { no_space = over; deep = omega arith; begins_here = rw (hc, over); goes = h }) in
          let apart : (members t.ms ++ 125 ∷ []) ++ t.rest ≡ members t.ms ++ 125 ∷ t.rest = simp append_assoc in
          record {
            v = object t.ms;
            rest = t.rest;
            is = ap (λ z. 123 ∷ z) (is ∙ t.is ∙ sym apart);
            is_tree = t.are;
            fits = omega (arith, t.fits);
            goes = t.goes;
          }

      object_spaced : (s : Stack) (xs ws rest : List ℕ) → length s < limit → 2 * length xs + 1 ≤ k → xs ≡ ws ++ rest → AreSpaces ws → Headed (λ x. is_space x ≡ false) rest
          → run limit n mode.NameOrClose false (true ∷ s) rest ≡ ended e → ValueBack n s (123 ∷ xs) e
      unfolding run
      object_spaced s xs ws [] room le is are over h = absurd (no_end n mode.NameOrClose (true ∷ s) e refl h)
      object_spaced s xs ws (y ∷ ys) room le is are over h = object_first s xs ws y ys _ room le is are over refl h

      object_back : (s : Stack) (xs : List ℕ) → length s < limit → 2 * length xs + 1 ≤ k → run limit n mode.NameOrClose false (true ∷ s) xs ≡ ended e → ValueBack n s (123 ∷ xs) e
      object_back s xs room le h =
          let w = spaces_of xs in
          object_spaced s xs w.ws w.rest room le w.is w.are w.over (past_spaces n mode.NameOrClose false (true ∷ s) e (first_name_begins (true ∷ s)).stays xs w h)

      -- ---- a value, by its first byte

      module _ (s : Stack) (m : Mode) (x : ℕ) (xs : List ℕ) (le : 2 * length (x ∷ xs) ≤ suc k) (b : Begun n s m x xs e) where
        act : (a : Action) → begins m x ≡ a → react limit (n - suc (length xs)) (n - length xs) false s (on limit n xs) a ≡ ended e
        act a h = sym (byte limit n m false s x xs a (b.begins_here ∙ h)) ∙ b.goes

        at : (y : ℕ) → (x == y) ≡ true → ValueBack n s (y ∷ xs) e → ValueBack n s (x ∷ xs) e
        at y h t = record { v = t.v; rest = t.rest; is = ap (λ x. x ∷ xs) (eqb-true x y h) ∙ t.is; is_tree = t.is_tree; fits = t.fits; goes = t.goes }

        of_text : TextBack n false s xs e → ValueBack n s (34 ∷ xs) e
        of_text t =
            let apart : (chars t.cs ++ 34 ∷ []) ++ t.rest ≡ chars t.cs ++ 34 ∷ t.rest = simp append_assoc in
            record { v = text t.cs; rest = t.rest; is = ap (λ z. 34 ∷ z) (t.is ∙ sym apart); is_tree = t.are; fits = omega (arith, b.deep); goes = sym (byte limit n mode.Text false s 34 t.rest does.Done refl) ∙ t.goes }

        of_word : (y : ℕ) (w : List ℕ) → IsWord w → WordBack n s y xs w e → ValueBack n s (y ∷ xs) e
        of_word y w h t = record { v = word w; rest = t.rest; is = t.is; is_tree = h; fits = omega (arith, b.deep); goes = t.goes }

        of_number : NumberBack n s e (x ∷ xs) → ValueBack n s (x ∷ xs) e
        of_number t = record { v = number t.num; rest = t.rest; is = t.is; is_tree = t.is_number; fits = omega (arith, b.deep); goes = t.goes }

        value_first : (q ob ol mi z d t f w : Bool) → (x == 34) ≡ q → (x == 123) ≡ ob → (x == 91) ≡ ol → (x == 45) ≡ mi → (x == 48) ≡ z → is_digit x ≡ d → (x == 116) ≡ t → (x == 102) ≡ f → (x == 110) ≡ w
            → ValueBack n s (x ∷ xs) e
        value_first true ob ol mi z d t f w hq hob hol hmi hz hd ht hf hw = at 34 hq (of_text (text_back n false s e (length xs) xs (omega arith) (act does.Text (rw (b.no_space, hq)))))
        value_first false true ol mi z d t f w hq hob hol hmi hz hd ht hf hw =
            let o = opened s _ _ _ refl (act (does.Open true) (rw (b.no_space, hq, hob))) in
            at 123 hob (object_back s xs o.0 (omega arith) o.1)
        value_first false false true mi z d t f w hq hob hol hmi hz hd ht hf hw =
            let o = opened s _ _ _ refl (act (does.Open false) (rw (b.no_space, hq, hob, hol))) in
            at 91 hol (list_back s xs o.0 (omega arith) o.1)
        value_first false false false true z d t f w hq hob hol hmi hz hd ht hf hw =
            let t = minus_back n s e xs (act (does.Go mode.Minus) (rw (b.no_space, hq, hob, hol, hmi))) in
            of_number (record { num = t.num; rest = t.rest; is = ap (λ x. x ∷ xs) (eqb-true x 45 hmi) ∙ t.is; is_number = t.is_number; goes = t.goes })
        value_first false false false false true d t f w hq hob hol hmi hz hd ht hf hw =
            of_number (zero_back n s e [] (x ∷ xs) xs (inl refl) (ap (λ x. x ∷ xs) (eqb-true x 48 hz)) (act (does.Go mode.Zero) (rw (b.no_space, hq, hob, hol, hmi, hz))))
        value_first false false false false false true t f w hq hob hol hmi hz hd ht hf hw =
            of_number (whole_back n s e [] (x ∷ xs) x xs (inl refl) refl hd (not_zero x hz) (act (does.Go mode.Whole) (rw (b.no_space, hq, hob, hol, hmi, hz, hd))))
          where
            not_zero : (x : ℕ) → (x == 48) ≡ false → x ≢ 48
            not_zero x f = grind (arith, nat_tests)
        value_first false false false false false false true f w hq hob hol hmi hz hd ht hf hw =
            at 116 ht (of_word 116 _ (inl refl) (true_back n s e xs (act (does.Go mode.True3) (rw (b.no_space, hq, hob, hol, hmi, hz, hd, ht)))))
        value_first false false false false false false false true w hq hob hol hmi hz hd ht hf hw =
            at 102 hf (of_word 102 _ (inr (inl refl)) (false_back n s e xs (act (does.Go mode.False4) (rw (b.no_space, hq, hob, hol, hmi, hz, hd, ht, hf)))))
        value_first false false false false false false false false true hq hob hol hmi hz hd ht hf hw =
            at 110 hw (of_word 110 _ (inr (inr refl)) (null_back n s e xs (act (does.Go mode.Null3) (rw (b.no_space, hq, hob, hol, hmi, hz, hd, ht, hf, hw)))))
        value_first false false false false false false false false false hq hob hol hmi hz hd ht hf hw =
            let g = act (does.Stop 0) (rw (b.no_space, hq, hob, hol, hmi, hz, hd, ht, hf, hw)) in absurd (cc)

        value_step : ValueBack n s (x ∷ xs) e
        value_step = value_first _ _ _ _ _ _ _ _ _ refl refl refl refl refl refl refl refl refl

      -- ---- behind an item

      -- what stands behind a value in a list
      record ItemsEnd (s : Stack) (a : List ℕ) (v : Tree) (c : List ℕ) (xs : List ℕ) : Type 0 where
        is_ : Items
        rest : List ℕ
        is : a ++ (spelling v ++ (c ++ xs)) ≡ items is_ ++ 93 ∷ rest
        are : AreItems is_
        fits : items_depth is_ + length (false ∷ s) ≤ limit
        goes : Ends n s rest e

      item_next : (s : Stack) (a : List ℕ) (v : Tree) (c : List ℕ) → AreSpaces a → IsTree v → AreSpaces c → depth v + length (false ∷ s) ≤ limit
          → (ys ws : List ℕ) (z : ℕ) (zs : List ℕ) → 2 * length ys + 1 ≤ k → ys ≡ ws ++ z ∷ zs → AreSpaces ws → Begun n (false ∷ s) mode.Value z zs e → ItemsEnd s a v c (44 ∷ ys)
      item_next s a v c ha hv hc d ys ws z zs le is are b =
          let t = hyp.items_ s mode.Value ws z zs (omega (arith, ap length is, length-append ws (z ∷ zs))) are b in
          let apart : (a ++ (spelling v ++ (c ++ 44 ∷ items t.is_))) ++ 93 ∷ t.rest ≡ a ++ (spelling v ++ (c ++ 44 ∷ (items t.is_ ++ 93 ∷ t.rest))) = simp append_assoc in
          record {
            is_ = more a v c t.is_;
            rest = t.rest;
            is = ap (λ y. a ++ (spelling v ++ (c ++ 44 ∷ y))) (is ∙ t.is) ∙ sym apart;
            are = (ha, hv, hc, t.are);
            fits = omega (arith, t.fits, d);
            goes = t.goes;
          }

      item_spaced : (s : Stack) (a : List ℕ) (v : Tree) (c : List ℕ) → AreSpaces a → IsTree v → AreSpaces c → depth v + length (false ∷ s) ≤ limit
          → (ys ws rest : List ℕ) → 2 * length ys + 1 ≤ k → ys ≡ ws ++ rest → AreSpaces ws → Headed (λ x. is_space x ≡ false) rest → run limit n mode.Value false (false ∷ s) rest ≡ ended e → ItemsEnd s a v c (44 ∷ ys)
      unfolding run
      item_spaced s a v c ha hv hc d ys ws [] le is are over h = absurd (no_end n mode.Value (false ∷ s) e refl h)
      item_spaced s a v c ha hv hc d ys ws (z ∷ zs) le is are over h = item_next s a v c ha hv hc d ys ws z zs le is are (record { no_space = over; deep = omega (arith, d); begins_here = refl; goes = h })

      item_behind : (s : Stack) (a : List ℕ) (v : Tree) (c : List ℕ) → AreSpaces a → IsTree v → AreSpaces c → depth v + length (false ∷ s) ≤ limit
          → (y : ℕ) (ys : List ℕ) (p q : Bool) → 2 * length ys + 1 ≤ k → is_space y ≡ false → (y == 44) ≡ p → (y == 93) ≡ q → run limit n mode.After false (false ∷ s) (y ∷ ys) ≡ ended e → ItemsEnd s a v c (y ∷ ys)
      item_behind s a v c ha hv hc d y ys true q le over hp hq h =
          let w = spaces_of ys in
          let g = sym (byte limit n mode.After false (false ∷ s) y ys (does.Go mode.Value) (rw (over, hp))) ∙ h in
          let t = item_spaced s a v c ha hv hc d ys w.ws w.rest le w.is w.are w.over (past_spaces n mode.Value false (false ∷ s) e (stays_value (false ∷ s) mode.Value (value_begins (false ∷ s))) ys w g) in
          record { is_ = t.is_; rest = t.rest; is = ap (λ y. a ++ (spelling v ++ (c ++ y ∷ ys))) (eqb-true y 44 hp) ∙ t.is; are = t.are; fits = t.fits; goes = t.goes }
      item_behind s a v c ha hv hc d y ys false true le over hp hq h =
          let apart : (a ++ (spelling v ++ c)) ++ 93 ∷ ys ≡ a ++ (spelling v ++ (c ++ 93 ∷ ys)) = simp append_assoc in
          record {
            is_ = one a v c;
            rest = ys;
            is = ap (λ y. a ++ (spelling v ++ (c ++ y ∷ ys))) (eqb-true y 93 hq) ∙ sym apart;
            are = (ha, hv, hc);
            fits = d;
            goes = sym (byte limit n mode.After false (false ∷ s) y ys does.Close (rw (over, hp, hq))) ∙ h;
          }
      item_behind s a v c ha hv hc d y ys false false le over hp hq h = let g = sym (byte limit n mode.After false (false ∷ s) y ys (does.Stop 0) (rw (over, hp, hq))) ∙ h in absurd (cc)

      item_end : (s : Stack) (a : List ℕ) (v : Tree) (c rest : List ℕ) → AreSpaces a → IsTree v → AreSpaces c → depth v + length (false ∷ s) ≤ limit
          → 2 * length rest ≤ suc k → Headed (λ x. is_space x ≡ false) rest → run limit n mode.After false (false ∷ s) rest ≡ ended e → ItemsEnd s a v c rest
      unfolding run
      item_end s a v c [] ha hv hc d le over h = absurd (no_end n mode.After (false ∷ s) e refl h)
      item_end s a v c (y ∷ ys) ha hv hc d le over h = item_behind s a v c ha hv hc d y ys _ _ (omega arith) over refl refl h

      items_step : (s : Stack) (m : Mode) (a : List ℕ) (x : ℕ) (xs : List ℕ) → 2 * length (x ∷ xs) + 1 ≤ suc k → AreSpaces a → Begun n (false ∷ s) m x xs e → ItemsBack n s (a ++ x ∷ xs) e
      items_step s m a x xs le ha b =
          let t = hyp.value (false ∷ s) m x xs (omega arith) b in
          let w = spaces_of t.rest in
          let shorter : length w.rest ≤ length (x ∷ xs) = omega (arith, ap length t.is, length-append (spelling t.v) t.rest, ap length w.is, length-append w.ws w.rest) in
          let i = item_end s a t.v w.ws w.rest ha t.is_tree w.are t.fits (omega arith) w.over (past_spaces n mode.After false (false ∷ s) e (stays_after false s) t.rest w t.goes) in
          record { is_ = i.is_; rest = i.rest; is = ap (λ z. a ++ z) (t.is ∙ ap (λ z. spelling t.v ++ z) w.is) ∙ i.is; are = i.are; fits = i.fits; goes = i.goes }

      -- ---- a member

      -- what stands behind the value of a member
      record MembersEnd (s : Stack) (front : List ℕ → List ℕ) (xs : List ℕ) : Type 0 where
        ms : Members
        rest : List ℕ
        is : front xs ≡ members ms ++ 125 ∷ rest
        are : AreMembers ms
        fits : members_depth ms + length (true ∷ s) ≤ limit
        goes : Ends n s rest e

      -- white space, a name, white space, a colon, white space, a value, white space, and then what stands behind
      abbrev member_front : List ℕ → List Char → List ℕ → List ℕ → Tree → List ℕ → List ℕ → List ℕ
      member_front a name b c v d xs = a ++ (quoted name ++ (b ++ 58 ∷ (c ++ (spelling v ++ (d ++ xs)))))

      module _ (s : Stack) (a : List ℕ) (name : List Char) (b c : List ℕ) (v : Tree) (d : List ℕ)
          (ha : AreSpaces a) (hname : AreChars name) (hb : AreSpaces b) (hc : AreSpaces c) (hv : IsTree v) (hd : AreSpaces d) (low : depth v + length (true ∷ s) ≤ limit) where
        member_next : (ys ws : List ℕ) (z : ℕ) (zs : List ℕ) → 2 * length ys + 1 ≤ k → ys ≡ ws ++ z ∷ zs → AreSpaces ws → BegunName n (true ∷ s) mode.Name z zs e
            → MembersEnd s (member_front a name b c v d) (44 ∷ ys)
        member_next ys ws z zs le is are g =
            let t = hyp.members_ s mode.Name ws z zs (omega (arith, ap length is, length-append ws (z ∷ zs))) are g in
            let apart : (a ++ (quoted name ++ (b ++ 58 ∷ (c ++ (spelling v ++ (d ++ 44 ∷ members t.ms)))))) ++ 125 ∷ t.rest ≡ member_front a name b c v d (44 ∷ (members t.ms ++ 125 ∷ t.rest)) = simp append_assoc in
            record {
              ms = more_members a name b c v d t.ms;
              rest = t.rest;
              is = ap (λ y. member_front a name b c v d (44 ∷ y)) (is ∙ t.is) ∙ sym apart;
              are = (ha, hname, hb, hc, hv, hd, t.are);
              fits = omega (arith, t.fits, low);
              goes = t.goes;
            }

        member_spaced : (ys ws rest : List ℕ) → 2 * length ys + 1 ≤ k → ys ≡ ws ++ rest → AreSpaces ws → Headed (λ x. is_space x ≡ false) rest → run limit n mode.Name false (true ∷ s) rest ≡ ended e
            → MembersEnd s (member_front a name b c v d) (44 ∷ ys)
        unfolding run
        member_spaced ys ws [] le is are over h = absurd (no_end n mode.Name (true ∷ s) e refl h)
        member_spaced ys ws (z ∷ zs) le is are over h = member_next ys ws z zs le is are (record { no_space = over; deep = omega (arith, low); begins_here = rw over; goes = h })

        member_behind : (y : ℕ) (ys : List ℕ) (p q : Bool) → 2 * length ys + 1 ≤ k → is_space y ≡ false → (y == 44) ≡ p → (y == 125) ≡ q → run limit n mode.After false (true ∷ s) (y ∷ ys) ≡ ended e
            → MembersEnd s (member_front a name b c v d) (y ∷ ys)
        member_behind y ys true q le over hp hq h =
            let w = spaces_of ys in
            let g = sym (byte limit n mode.After false (true ∷ s) y ys (does.Go mode.Name) (rw (over, hp))) ∙ h in
            let t = member_spaced ys w.ws w.rest le w.is w.are w.over (past_spaces n mode.Name false (true ∷ s) e (name_begins (true ∷ s)).stays ys w g) in
            record { ms = t.ms; rest = t.rest; is = ap (λ y. member_front a name b c v d (y ∷ ys)) (eqb-true y 44 hp) ∙ t.is; are = t.are; fits = t.fits; goes = t.goes }
        member_behind y ys false true le over hp hq h =
            let apart : (a ++ (quoted name ++ (b ++ 58 ∷ (c ++ (spelling v ++ d))))) ++ 125 ∷ ys ≡ member_front a name b c v d (125 ∷ ys) = simp append_assoc in
            record {
              ms = one_member a name b c v d;
              rest = ys;
              is = ap (λ y. member_front a name b c v d (y ∷ ys)) (eqb-true y 125 hq) ∙ sym apart;
              are = (ha, hname, hb, hc, hv, hd);
              fits = low;
              goes = sym (byte limit n mode.After false (true ∷ s) y ys does.Close (rw (over, hp, hq))) ∙ h;
            }
        member_behind y ys false false le over hp hq h = let g = sym (byte limit n mode.After false (true ∷ s) y ys (does.Stop 0) (rw (over, hp, hq))) ∙ h in absurd (cc)

        member_end : (rest : List ℕ) → 2 * length rest ≤ suc k → Headed (λ x. is_space x ≡ false) rest → run limit n mode.After false (true ∷ s) rest ≡ ended e → MembersEnd s (member_front a name b c v d) rest
        unfolding run
        member_end [] le over h = absurd (no_end n mode.After (true ∷ s) e refl h)
        member_end (y ∷ ys) le over h = member_behind y ys _ _ (omega arith) over refl refl h

      -- the value of a member, where it begins
      member_value : (s : Stack) (a : List ℕ) (name : List Char) (b c : List ℕ) → AreSpaces a → AreChars name → AreSpaces b → AreSpaces c
          → (z : ℕ) (zs : List ℕ) → 2 * length (z ∷ zs) ≤ k → Begun n (true ∷ s) mode.Value z zs e → MembersBack n s (a ++ (quoted name ++ (b ++ 58 ∷ (c ++ z ∷ zs)))) e
      member_value s a name b c ha hname hb hc z zs le g =
          let t = hyp.value (true ∷ s) mode.Value z zs le g in
          let w = spaces_of t.rest in
          let shorter : length w.rest ≤ length (z ∷ zs) = omega (arith, ap length t.is, length-append (spelling t.v) t.rest, ap length w.is, length-append w.ws w.rest) in
          let i = member_end s a name b c t.v w.ws ha hname hb hc t.is_tree w.are t.fits w.rest (omega arith) w.over (past_spaces n mode.After false (true ∷ s) e (stays_after true s) t.rest w t.goes) in
          record { ms = i.ms; rest = i.rest; is = ap (λ z. a ++ (quoted name ++ (b ++ 58 ∷ (c ++ z)))) (t.is ∙ ap (λ z. spelling t.v ++ z) w.is) ∙ i.is; are = i.are; fits = i.fits; goes = i.goes }

      value_spaced : (s : Stack) (a : List ℕ) (name : List Char) (b c rest : List ℕ) → AreSpaces a → AreChars name → AreSpaces b → AreSpaces c → length (true ∷ s) ≤ limit
          → 2 * length rest ≤ k → Headed (λ x. is_space x ≡ false) rest → run limit n mode.Value false (true ∷ s) rest ≡ ended e → MembersBack n s (a ++ (quoted name ++ (b ++ 58 ∷ (c ++ rest)))) e
      unfolding run
      value_spaced s a name b c [] ha hname hb hc low le over h = absurd (no_end n mode.Value (true ∷ s) e refl h)
      value_spaced s a name b c (z ∷ zs) ha hname hb hc low le over h = member_value s a name b c ha hname hb hc z zs le (record { no_space = over; deep = low; begins_here = refl; goes = h })

      colon_at : (s : Stack) (a : List ℕ) (name : List Char) (b : List ℕ) (y : ℕ) (ys : List ℕ) (p : Bool) → AreSpaces a → AreChars name → AreSpaces b → length (true ∷ s) ≤ limit
          → 2 * length ys ≤ k → is_space y ≡ false → (y == 58) ≡ p → run limit n mode.Colon true (true ∷ s) (y ∷ ys) ≡ ended e → MembersBack n s (a ++ (quoted name ++ (b ++ y ∷ ys))) e
      colon_at s a name b y ys true ha hname hb low le over hp h =
          let w = spaces_of ys in
          let g = sym (byte limit n mode.Colon true (true ∷ s) y ys does.Begin (rw (over, hp))) ∙ h in
          let shorter : length w.rest ≤ length ys = omega (arith, ap length w.is, length-append w.ws w.rest) in
          let t = value_spaced s a name b w.ws w.rest ha hname hb w.are low (omega arith) w.over (past_spaces n mode.Value false (true ∷ s) e (stays_value (true ∷ s) mode.Value (value_begins (true ∷ s))) ys w g) in
          record { ms = t.ms; rest = t.rest; is = ap (λ y. a ++ (quoted name ++ (b ++ y ∷ ys))) (eqb-true y 58 hp) ∙ ap (λ z. a ++ (quoted name ++ (b ++ 58 ∷ z))) w.is ∙ t.is; are = t.are; fits = t.fits; goes = t.goes }
      colon_at s a name b y ys false ha hname hb low le over hp h = let g = sym (byte limit n mode.Colon true (true ∷ s) y ys (does.Stop 0) (rw (over, hp))) ∙ h in absurd (cc)

      colon_spaced : (s : Stack) (a : List ℕ) (name : List Char) (b rest : List ℕ) → AreSpaces a → AreChars name → AreSpaces b → length (true ∷ s) ≤ limit
          → 2 * length rest ≤ k → Headed (λ x. is_space x ≡ false) rest → run limit n mode.Colon true (true ∷ s) rest ≡ ended e → MembersBack n s (a ++ (quoted name ++ (b ++ rest))) e
      unfolding run
      colon_spaced s a name b [] ha hname hb low le over h = absurd (no_end n mode.Colon (true ∷ s) e refl h)
      colon_spaced s a name b (y ∷ ys) ha hname hb low le over h = colon_at s a name b y ys _ ha hname hb low (omega arith) over refl h

      name_at : (s : Stack) (m : Mode) (a : List ℕ) (x : ℕ) (xs : List ℕ) (p : Bool) → 2 * length (x ∷ xs) + 1 ≤ suc k → AreSpaces a → BegunName n (true ∷ s) m x xs e → (x == 34) ≡ p → MembersBack n s (a ++ x ∷ xs) e
      name_at s m a x xs true le ha b hp =
          let g = sym (byte limit n m false (true ∷ s) x xs does.Name (b.begins_here ∙ rw hp)) ∙ b.goes in
          let t = text_back n true (true ∷ s) e (length xs) xs (omega arith) g in
          let w = spaces_of t.rest in
          let shorter : length w.rest ≤ length xs = omega (arith, ap length t.is, length-append (chars t.cs) (34 ∷ t.rest), ap length w.is, length-append w.ws w.rest) in
          let h = sym (byte limit n mode.Text true (true ∷ s) 34 t.rest (does.Go mode.Colon) refl) ∙ t.goes in
          let i = colon_spaced s a t.cs w.ws w.rest ha t.are w.are b.deep (omega arith) w.over (past_spaces n mode.Colon true (true ∷ s) e (stays_colon (true ∷ s)) t.rest w h) in
          let apart : quoted t.cs ++ (w.ws ++ w.rest) ≡ 34 ∷ (chars t.cs ++ 34 ∷ (w.ws ++ w.rest)) = simp append_assoc in
          record {
            ms = i.ms;
            rest = i.rest;
            is = ap (λ x. a ++ x ∷ xs) (eqb-true x 34 hp) ∙ ap (λ z. a ++ 34 ∷ z) (t.is ∙ ap (λ z. chars t.cs ++ 34 ∷ z) w.is) ∙ ap (λ z. a ++ z) (sym apart) ∙ i.is;
            are = i.are;
            fits = i.fits;
            goes = i.goes;
          }
      name_at s m a x xs false le ha b hp = let g = sym (byte limit n m false (true ∷ s) x xs (does.Stop 0) (b.begins_here ∙ rw hp)) ∙ b.goes in absurd (cc)

    backs : (k : ℕ) → Backs k
    backs zero = record { value = λ s m x xs le b. absurd (omega arith); items_ = λ s m a x xs le ha b. absurd (omega arith); members_ = λ s m a x xs le ha b. absurd (omega arith) }
    backs (suc k) =
        let hyp = backs k in
        record {
          value = λ s m x xs le b. value_step k hyp s m x xs le b;
          items_ = λ s m a x xs le ha b. items_step k hyp s m a x xs le ha b;
          members_ = λ s m a x xs le ha b. name_at k hyp s m a x xs _ le ha b refl;
        }

    -- what is read from where a value begins is the spelling of a value
    pub value_back : (x : ℕ) (xs : List ℕ) → is_space x ≡ false → run limit n mode.Value false [] (x ∷ xs) ≡ ended e → ValueBack n [] (x ∷ xs) e
    value_back x xs over h = (backs (2 * length (x ∷ xs))).value [] mode.Value x xs (omega arith) (record { no_space = over; deep = omega arith; begins_here = refl; goes = h })

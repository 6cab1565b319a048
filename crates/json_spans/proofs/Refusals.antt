-- Where a text is refused: the machine's stops are the grammar's.
use Rattle.std.proofs.Common.{◌≡◌, ◌⊎◌, ℕ, suc, ◌+◌, ◌-◌, ◌≤◌, Bool, true, false, cond, ◌&&◌, ◌||◌, not, ◌==◌, nat_lt, List, [], ◌∷◌, ◌++◌, length, length-append, drop, refl, ap, ◌∙◌, sym, arith, subst, inl, inr, IsTrue, Err}
use Rattle.std.proofs.lemmas.List.{append_assoc}
use Rattle.std.proofs.lemmas.Bool.Decides.{nat_tests}
use Rattle.std.proofs.lemmas.Bool.{lt-ltb, eqb-true}
use Rattle.std.specs.Prelude.{IsUtf8}
use Rattle.json_spans.specs.Bytes.{is_space, is_hex, is_high, is_low}
use Rattle.json_spans.specs.Grammar.{Tree, AreSpaces, IsJson, depth, spelling, is_d}
use Rattle.json_spans.specs.Faults.{Begins, Tests, first_half, second_half, passes, fits, Escapes, is_alone, LoneHalf, HalfNamed, GoesOn, IsSyntaxFault, IsDeepFault}
use Rattle.json_spans.specs.Table.{step, go_if, back, is_number_end}
use Rattle.json_spans.specs.Machine.{Outcome, ended, stopped, too_deep, Stack, top_of, first_of, run, at_end}
use Rattle.json_spans.specs.Machine.{value_at, as_result}
use Rattle.json_spans.specs.Parts.{space_len}
use Rattle.json_spans.specs.Cut.{at_the_end, and_then_the_end, whole, Refuses}
use Rattle.json_spans.specs.declared.fault.JsonFault.{JsonFault}
use Rattle.json_spans.specs.declared.fault.JsonFault.TheVariants as fault
use Rattle.json_spans.specs.declared.table.Mode.{Mode}
use Rattle.json_spans.specs.declared.table.Mode.TheVariants as mode
use Rattle.json_spans.specs.declared.table.Action.{Action}
use Rattle.json_spans.specs.declared.table.Action.TheVariants as does
use Rattle.json_spans.proofs.Forward.{byte, spaces, value_begins, stays_value, holds}
use Rattle.json_spans.proofs.Backward.{Headed, spaces_of}
use Rattle.json_spans.proofs.Texts.{nil, space_len-append, drop_front, end_at}
use Rattle.json_spans.proofs.Completing.{same_back, same_front, IsAlive, goes_on, text_read, spaces_behind, value_in}
use Rattle.json_spans.proofs.Course.{Reach, Second, Third, Half, Past, Verdict, stop_at, over, done, decided, Why, Read, Halted, Sunk, Course, read, halted, sunk, course, fine, StopsHere}

-- ---- outcomes that differ

pub ended_stopped : (p q : ℕ) → ended p ≡ stopped q → ⊥
ended_stopped p q e = cc

pub ended_deep : (p q : ℕ) → ended p ≡ too_deep q → ⊥
ended_deep p q e = cc

pub stopped_deep : (p q : ℕ) → stopped p ≡ too_deep q → ⊥
stopped_deep p q e = cc

pub stopped_same : (p q : ℕ) → stopped p ≡ stopped q → p ≡ q
stopped_same p q e = cc

-- a whole text of so many levels
abbrev pub Reads : ℕ → List ℕ → Outcome
Reads limit text = run limit (length text) mode.Value false [] text

-- ---- where nothing goes on

-- where a byte is refused, no text goes on with it
stopped_dead : (front : List ℕ) (x : ℕ) (p : ℕ → List ℕ → ℕ) → ((limit n : ℕ) (ys : List ℕ) → 127 ≤ limit → run limit n mode.Value false [] (front ++ x ∷ ys) ≡ stopped (p n ys))
    → (levels : ℕ) → Begins levels (front ++ x ∷ []) → ⊥
stopped_dead front x p says levels b =
    let text = (front ++ x ∷ []) ++ b.more in
    let r = text_read (127 + levels) text b.before b.v b.after b.json (omega (arith, b.within)) in
    let h = ap (run (127 + levels) (length text) mode.Value false []) (append_assoc front (x ∷ []) b.more) ∙ says (127 + levels) (length text) b.more (omega arith) in
    ended_stopped _ _ (sym r ∙ h)

-- behind a front that leads into a string, a backslash begins an escape
escapes_at : (f : List ℕ) (naming : Bool) (s : Stack) → Reach f mode.Text naming s → Escapes f
escapes_at f naming s r =
    let B : List ℕ → ℕ → Type 0 = λ z l. Begins l z in
    record {
      good = goes_on 127 (f ++ 92 ∷ 110 ∷ []) mode.Text naming s
          (λ n ys. ap (run 127 n mode.Value false []) (append_assoc f (92 ∷ 110 ∷ []) ys) ∙ r 127 n (92 ∷ 110 ∷ ys) (omega arith)
          ∙ byte 127 n mode.Text naming s 92 (110 ∷ ys) (does.Go mode.Escape) refl ∙ byte 127 n mode.Escape naming s 110 ys (does.Go mode.Text) refl) tt;
      bad = λ levels b. stopped_dead (f ++ 92 ∷ []) 113 (λ n ys. n - suc (length ys) - 0)
          (λ limit n ys big. ap (run limit n mode.Value false []) (append_assoc f (92 ∷ []) (113 ∷ ys)) ∙ r limit n (92 ∷ 113 ∷ ys) big
          ∙ byte limit n mode.Text naming s 92 (113 ∷ ys) (does.Go mode.Escape) refl ∙ byte limit n mode.Escape naming s 113 ys (does.Stop 0) refl) levels
          (let P : List ℕ → Type 0 = λ z. Begins levels z in subst P (sym (append_assoc f (92 ∷ []) (113 ∷ []))) b);
    }

-- ---- and a front behind which a backslash begins an escape leads into a string

record TextAt (f : List ℕ) : Type 0 where
  naming : Bool
  s : Stack
  reach : Reach f mode.Text naming s

no_backslash : (u v : List ℕ) → AreSpaces (u ++ 92 ∷ v) → ⊥
no_backslash [] v h = let e = h.0 in cc
no_backslash (x ∷ u) v h = no_backslash u v h.1

-- an action that ends the reading
abbrev IsOut : Action → Type 0
IsOut (does.Stop b) = Unit {0}
IsOut does.Over = Unit {0}
IsOut a = ⊥

module _ (f : List ℕ) (e : Escapes f) where
  abbrev t : List ℕ
  t = (f ++ 92 ∷ 110 ∷ []) ++ e.good.more

  tail : t ≡ f ++ 92 ∷ 110 ∷ e.good.more
  tail = append_assoc f (92 ∷ 110 ∷ []) e.good.more

  reads : Reads 127 t ≡ ended (length t - length e.good.after)
  reads = text_read 127 t e.good.before e.good.v e.good.after e.good.json e.good.within

  behind : (u w : List ℕ) → t ≡ u ++ w → Reads 127 t ≡ ended (length t - length w) → AreSpaces w
  behind u w is h = spaces_behind 127 t u w e.good.before e.good.v e.good.after e.good.json e.good.within is h

  from_f : (m : Mode) (naming : Bool) (s : Stack) → Reach f m naming s → Reads 127 t ≡ run 127 (length t) m naming s (92 ∷ 110 ∷ e.good.more)
  from_f m naming s r = ap (run 127 (length t) mode.Value false []) tail ∙ r 127 (length t) (92 ∷ 110 ∷ e.good.more) (omega arith)

  by_action : (m : Mode) (naming : Bool) (s : Stack) → Reach f m naming s → (a : Action) → step m naming (top_of s) 92 ≡ a → IsOut a → ⊥
  by_action m naming s r (does.Stop b) h o = ended_stopped _ _ (sym reads ∙ from_f m naming s r ∙ byte 127 (length t) m naming s 92 (110 ∷ e.good.more) (does.Stop b) h)
  by_action m naming s r does.Over h o = no_backslash [] (110 ∷ e.good.more) (behind f (92 ∷ 110 ∷ e.good.more) tail (from_f m naming s r ∙ byte 127 (length t) m naming s 92 (110 ∷ e.good.more) does.Over h))
  by_action m naming s r (does.Go m2) h o = o
  by_action m naming s r does.Begin h o = o
  by_action m naming s r does.Name h o = o
  by_action m naming s r does.Text h o = o
  by_action m naming s r (does.Open b) h o = o
  by_action m naming s r does.Done h o = o
  by_action m naming s r does.Close h o = o

  out : (m : Mode) (naming : Bool) (s : Stack) → Reach f m naming s → IsOut (step m naming (top_of s) 92) → TextAt f
  out m naming s r o = absurd (by_action m naming s r _ refl o)

  not_escape : (naming : Bool) (s : Stack) → Reach f mode.Escape naming s → TextAt f
  not_escape naming s r = absurd (e.bad 127 (goes_on 127 (f ++ 92 ∷ 113 ∷ []) mode.Text naming s
      (λ n ys. ap (run 127 n mode.Value false []) (append_assoc f (92 ∷ 113 ∷ []) ys) ∙ r 127 n (92 ∷ 113 ∷ ys) (omega arith)
      ∙ byte 127 n mode.Escape naming s 92 (113 ∷ ys) (does.Go mode.Text) refl ∙ byte 127 n mode.Text naming s 113 ys (does.Go mode.Text) refl) tt))

  not_pair : (naming : Bool) (s : Stack) → Reach f mode.Pair6 naming s → TextAt f
  not_pair naming s r = absurd (ended_stopped _ _ (sym reads ∙ from_f mode.Pair6 naming s r
      ∙ byte 127 (length t) mode.Pair6 naming s 92 (110 ∷ e.good.more) (does.Go mode.Pair5) refl ∙ byte 127 (length t) mode.Pair5 naming s 110 e.good.more (does.Stop 7) refl))

  by_mode : (m : Mode) (naming : Bool) (s : Stack) → Reach f m naming s → TextAt f
  by_mode mode.Text naming s r = record { naming = naming; s = s; reach = r }
  by_mode mode.Escape naming s r = not_escape naming s r
  by_mode mode.Pair6 naming s r = not_pair naming s r
  by_mode mode.After naming [] r = out mode.After naming [] r tt
  by_mode mode.After naming (true ∷ s) r = out mode.After naming (true ∷ s) r tt
  by_mode mode.After naming (false ∷ s) r = out mode.After naming (false ∷ s) r tt
  by_mode mode.Zero naming [] r = out mode.Zero naming [] r tt
  by_mode mode.Zero naming (true ∷ s) r = out mode.Zero naming (true ∷ s) r tt
  by_mode mode.Zero naming (false ∷ s) r = out mode.Zero naming (false ∷ s) r tt
  by_mode mode.Whole naming [] r = out mode.Whole naming [] r tt
  by_mode mode.Whole naming (true ∷ s) r = out mode.Whole naming (true ∷ s) r tt
  by_mode mode.Whole naming (false ∷ s) r = out mode.Whole naming (false ∷ s) r tt
  by_mode mode.Fraction naming [] r = out mode.Fraction naming [] r tt
  by_mode mode.Fraction naming (true ∷ s) r = out mode.Fraction naming (true ∷ s) r tt
  by_mode mode.Fraction naming (false ∷ s) r = out mode.Fraction naming (false ∷ s) r tt
  by_mode mode.ExponentDigits naming [] r = out mode.ExponentDigits naming [] r tt
  by_mode mode.ExponentDigits naming (true ∷ s) r = out mode.ExponentDigits naming (true ∷ s) r tt
  by_mode mode.ExponentDigits naming (false ∷ s) r = out mode.ExponentDigits naming (false ∷ s) r tt
  by_mode m naming s r = out m naming s r tt

  by_verdict : (h : Halted f) (v : Verdict) → ((limit n : ℕ) (ys : List ℕ) → 127 ≤ limit → run limit n h.m h.naming h.s (h.x ∷ ys) ≡ decided v n (length ys)) → ⊥
  by_verdict h v says = decide v says
    where
      all : t ≡ h.front ++ h.x ∷ (h.rest ++ 92 ∷ 110 ∷ e.good.more)
      all = tail ∙ ap (λ z. z ++ 92 ∷ 110 ∷ e.good.more) h.is ∙ append_assoc h.front (h.x ∷ h.rest) (92 ∷ 110 ∷ e.good.more)

      told : (v : Verdict) → ((limit n : ℕ) (ys : List ℕ) → 127 ≤ limit → run limit n h.m h.naming h.s (h.x ∷ ys) ≡ decided v n (length ys)) → Reads 127 t ≡ decided v (length t) (length (h.rest ++ 92 ∷ 110 ∷ e.good.more))
      told v says = ap (run 127 (length t) mode.Value false []) all ∙ h.reach 127 (length t) (h.x ∷ (h.rest ++ 92 ∷ 110 ∷ e.good.more)) (omega arith) ∙ says 127 (length t) (h.rest ++ 92 ∷ 110 ∷ e.good.more) (omega arith)

      decide : (v : Verdict) → ((limit n : ℕ) (ys : List ℕ) → 127 ≤ limit → run limit n h.m h.naming h.s (h.x ∷ ys) ≡ decided v n (length ys)) → ⊥
      decide (stop_at b) says = ended_stopped _ _ (sym reads ∙ told (stop_at b) says)
      decide over says = no_backslash (h.x ∷ h.rest) (110 ∷ e.good.more) (behind h.front (h.x ∷ (h.rest ++ 92 ∷ 110 ∷ e.good.more)) all (told over says))
      decide done says = no_backslash h.rest (110 ∷ e.good.more) (behind (h.front ++ h.x ∷ []) (h.rest ++ 92 ∷ 110 ∷ e.good.more) (all ∙ sym (append_assoc h.front (h.x ∷ []) (h.rest ++ 92 ∷ 110 ∷ e.good.more))) (told done says))

  not_sunk : Sunk f → ⊥
  not_sunk h =
      let rest = h.rest ++ 92 ∷ 110 ∷ e.good.more in
      let all : t ≡ h.front ++ h.x ∷ rest = tail ∙ ap (λ z. z ++ 92 ∷ 110 ∷ e.good.more) h.is ∙ append_assoc h.front (h.x ∷ h.rest) (92 ∷ 110 ∷ e.good.more) in
      let deep = byte 127 (length t) h.m h.naming h.s h.x rest (does.Open h.b) h.opens in
      ended_deep _ _ (sym reads ∙ ap (run 127 (length t) mode.Value false []) all ∙ h.reach 127 (length t) (h.x ∷ rest) (omega arith) ∙ deep ∙ ap (λ k. cond (nat_lt k 127) (run 127 (length t) (first_of h.b) h.naming (h.b ∷ h.s) rest) (too_deep (length t - suc (length rest)))) h.size)

  by_course : Course f → TextAt f
  by_course (read r) = by_mode r.m r.naming r.s r.reach
  by_course (halted h) = absurd (by_verdict h h.verdict h.says)
  by_course (sunk h) = absurd (not_sunk h)

text_at : (f : List ℕ) → Escapes f → TextAt f
text_at f e = by_course f e (course f)

-- ---- escapes, byte by byte

and_left : (a b : Bool) → (a && b) ≡ true → a ≡ true
and_left true b h = refl
and_left false b h = h

and_right : (a b : Bool) → (a && b) ≡ true → b ≡ true
and_right true b h = h
and_right false b h = absurd (cc)

record Pass (t : ℕ → Bool) (ts : Tests) (xs : List ℕ) : Type 0 where
  x : ℕ
  rest : List ℕ
  is : xs ≡ x ∷ rest
  yes : t x ≡ true
  then : passes ts rest ≡ true

one_pass : (t : ℕ → Bool) (ts : Tests) (xs : List ℕ) → passes (t ∷ ts) xs ≡ true → Pass t ts xs
one_pass t ts [] h = absurd (cc)
one_pass t ts (x ∷ xs) h = record { x = x; rest = xs; is = refl; yes = and_left _ _ h; then = and_right _ _ h }

-- a whole escape whose second digit passes the test
record Escape (test : ℕ → Bool) (here : List ℕ) : Type 0 where
  a : ℕ
  b : ℕ
  c : ℕ
  d : ℕ
  behind : List ℕ
  is : here ≡ 92 ∷ 117 ∷ a ∷ b ∷ c ∷ d ∷ behind
  is_first : is_d a ≡ true
  is_second : test b ≡ true
  is_third : is_hex c ≡ true
  is_fourth : is_hex d ≡ true

escape_of : (test : ℕ → Bool) (here : List ℕ) → passes ((λ x. x == 92) ∷ (λ x. x == 117) ∷ is_d ∷ test ∷ is_hex ∷ is_hex ∷ []) here ≡ true → Escape test here
escape_of test here h =
    let p = one_pass (λ x. x == 92) ((λ x. x == 117) ∷ is_d ∷ test ∷ is_hex ∷ is_hex ∷ []) here h in
    let q = one_pass (λ x. x == 117) (is_d ∷ test ∷ is_hex ∷ is_hex ∷ []) p.rest p.then in
    let a = one_pass is_d (test ∷ is_hex ∷ is_hex ∷ []) q.rest q.then in
    let b = one_pass test (is_hex ∷ is_hex ∷ []) a.rest a.then in
    let c = one_pass is_hex (is_hex ∷ []) b.rest b.then in
    let d = one_pass is_hex [] c.rest c.then in
    record {
      a = a.x;
      b = b.x;
      c = c.x;
      d = d.x;
      behind = d.rest;
      is = p.is ∙ ap (λ y. y ∷ p.rest) (eqb-true p.x 92 p.yes) ∙ ap (λ z. 92 ∷ z) (q.is ∙ ap (λ y. y ∷ q.rest) (eqb-true q.x 117 q.yes) ∙ ap (λ z. 117 ∷ z)
          (a.is ∙ ap (λ z. a.x ∷ z) (b.is ∙ ap (λ z. b.x ∷ z) (c.is ∙ ap (λ z. c.x ∷ z) d.is))));
      is_first = a.yes;
      is_second = b.yes;
      is_third = c.yes;
      is_fourth = d.yes;
    }

low_not_high : (x : ℕ) → is_low x ≡ true → is_high x ≡ false
low_not_high x e = grind (arith, nat_tests)

high_not_low : (x : ℕ) → is_high x ≡ true → is_low x ≡ false
high_not_low x e = grind (arith, nat_tests)

module _ (n : ℕ) (naming : Bool) (s : Stack) where
  low_begun : (a b : ℕ) (xs : List ℕ) → is_d a ≡ true → is_low b ≡ true → run 127 n mode.Text naming s (92 ∷ 117 ∷ a ∷ b ∷ xs) ≡ run 127 n mode.Low2 naming s xs
  low_begun a b xs ha hb =
      byte 127 n mode.Text naming s 92 (117 ∷ a ∷ b ∷ xs) (does.Go mode.Escape) refl
      ∙ byte 127 n mode.Escape naming s 117 (a ∷ b ∷ xs) (does.Go mode.Hex4) refl
      ∙ byte 127 n mode.Hex4 naming s a (b ∷ xs) (does.Go mode.HexD) (rw ha)
      ∙ byte 127 n mode.HexD naming s b xs (does.Go mode.Low2) (rw (low_not_high b hb, hb))

  low_third : (c : ℕ) (xs : List ℕ) → is_hex c ≡ true → run 127 n mode.Low2 naming s (c ∷ xs) ≡ run 127 n mode.Low1 naming s xs
  low_third c xs h = byte 127 n mode.Low2 naming s c xs (does.Go mode.Low1) (rw h)

  low_stops : (a b c d : ℕ) (xs : List ℕ) → is_d a ≡ true → is_low b ≡ true → is_hex c ≡ true → is_hex d ≡ true
      → run 127 n mode.Text naming s (92 ∷ 117 ∷ a ∷ b ∷ c ∷ d ∷ xs) ≡ stopped (n - suc (length xs) - 5)
  low_stops a b c d xs ha hb hc hd = low_begun a b (c ∷ d ∷ xs) ha hb ∙ low_third c (d ∷ xs) hc ∙ byte 127 n mode.Low1 naming s d xs (does.Stop 5) (rw hd)

  high_read : (a b c d : ℕ) (xs : List ℕ) → is_d a ≡ true → is_high b ≡ true → is_hex c ≡ true → is_hex d ≡ true
      → run 127 n mode.Text naming s (92 ∷ 117 ∷ a ∷ b ∷ c ∷ d ∷ xs) ≡ run 127 n mode.Pair6 naming s xs
  high_read a b c d xs ha hb hc hd =
      byte 127 n mode.Text naming s 92 (117 ∷ a ∷ b ∷ c ∷ d ∷ xs) (does.Go mode.Escape) refl
      ∙ byte 127 n mode.Escape naming s 117 (a ∷ b ∷ c ∷ d ∷ xs) (does.Go mode.Hex4) refl
      ∙ byte 127 n mode.Hex4 naming s a (b ∷ c ∷ d ∷ xs) (does.Go mode.HexD) (rw ha)
      ∙ byte 127 n mode.HexD naming s b (c ∷ d ∷ xs) (does.Go mode.High2) (rw hb)
      ∙ byte 127 n mode.High2 naming s c (d ∷ xs) (does.Go mode.High1) (rw hc)
      ∙ byte 127 n mode.High1 naming s d xs (does.Go mode.Pair6) (rw hd)

  -- one byte of what has to be a second half
  module _ (m next : Mode) (t : ℕ → Bool) (ts : Tests) (k : ℕ) (st : (x : ℕ) → step m naming (top_of s) x ≡ go_if (t x) next k)
      (then : (xs : List ℕ) → passes ts xs ≡ false → run 127 n next naming s xs ≡ stopped (n - length xs - suc k)) where
    rung_at : (x : ℕ) (xs : List ℕ) (b : Bool) → t x ≡ b → (b && passes ts xs) ≡ false → run 127 n m naming s (x ∷ xs) ≡ stopped (n - length (x ∷ xs) - k)
    rung_at x xs true e h =
        let same : n - length xs - suc k ≡ n - suc (length xs) - k = omega arith in
        byte 127 n m naming s x xs (does.Go next) (st x ∙ rw e) ∙ then xs h ∙ ap stopped same
    rung_at x xs false e h = byte 127 n m naming s x xs (does.Stop k) (st x ∙ rw e)

    rung : at_end n m s ≡ stopped (n - k) → (xs : List ℕ) → passes (t ∷ ts) xs ≡ false → run 127 n m naming s xs ≡ stopped (n - length xs - k)
    unfolding run
    rung end [] h = let same : n - k ≡ n - 0 - k = omega arith in end ∙ ap stopped same
    rung end (x ∷ xs) h = rung_at x xs (t x) refl h

  ends_pair : (m : Mode) (s : Stack) → is_number_end m ≡ false → at_end n m s ≡ stopped (n - back m)
  ends_pair m [] h = rw h
  ends_pair m (b ∷ s) h = refl

  pair_stops : (xs : List ℕ) → passes second_half xs ≡ false → run 127 n mode.Pair6 naming s xs ≡ stopped (n - length xs - 6)
  pair_stops =
      rung mode.Pair6 mode.Pair5 (λ x. x == 92) ((λ x. x == 117) ∷ is_d ∷ is_low ∷ is_hex ∷ is_hex ∷ []) 6 (λ x. refl)
      (rung mode.Pair5 mode.Pair4 (λ x. x == 117) (is_d ∷ is_low ∷ is_hex ∷ is_hex ∷ []) 7 (λ x. refl)
      (rung mode.Pair4 mode.Pair3 is_d (is_low ∷ is_hex ∷ is_hex ∷ []) 8 (λ x. refl)
      (rung mode.Pair3 mode.Pair2 is_low (is_hex ∷ is_hex ∷ []) 9 (λ x. refl)
      (rung mode.Pair2 mode.Pair1 is_hex (is_hex ∷ []) 10 (λ x. refl)
      (rung mode.Pair1 mode.Text is_hex [] 11 (λ x. refl) (λ xs h. absurd (cc))
      (ends_pair mode.Pair1 s refl)) (ends_pair mode.Pair2 s refl)) (ends_pair mode.Pair3 s refl)) (ends_pair mode.Pair4 s refl)) (ends_pair mode.Pair5 s refl)) (ends_pair mode.Pair6 s refl)

-- ---- half of a pair alone is refused at its backslash

pub alone_stops : (text : List ℕ) (q : ℕ) → LoneHalf text q → Reads 127 text ≡ stopped q
alone_stops text q h = by_tests (passes second_half h.here) refl h.alone
  where
    r : TextAt h.front
    r = text_at h.front h.escapes

    low : Escape is_low h.here → Reads 127 text ≡ stopped q
    low e =
        let place : (length text) - suc (length e.behind) - 5 ≡ q = omega (arith, h.at, ap length h.is, length-append h.front h.here, ap length e.is) in
        ap (run 127 (length text) mode.Value false []) (h.is ∙ ap (λ z. h.front ++ z) e.is) ∙ r.reach 127 (length text) (92 ∷ 117 ∷ e.a ∷ e.b ∷ e.c ∷ e.d ∷ e.behind) (omega arith)
        ∙ low_stops (length text) r.naming r.s e.a e.b e.c e.d e.behind e.is_first e.is_second e.is_third e.is_fourth ∙ ap stopped place

    high : Escape is_high h.here → passes second_half (drop 6 h.here) ≡ false → Reads 127 text ≡ stopped q
    high e lone =
        let place : (length text) - length e.behind - 6 ≡ q = omega (arith, h.at, ap length h.is, length-append h.front h.here, ap length e.is) in
        ap (run 127 (length text) mode.Value false []) (h.is ∙ ap (λ z. h.front ++ z) e.is) ∙ r.reach 127 (length text) (92 ∷ 117 ∷ e.a ∷ e.b ∷ e.c ∷ e.d ∷ e.behind) (omega arith)
        ∙ high_read (length text) r.naming r.s e.a e.b e.c e.d e.behind e.is_first e.is_second e.is_third e.is_fourth
        ∙ pair_stops (length text) r.naming r.s e.behind (ap (λ z. passes second_half (drop 6 z)) (sym e.is) ∙ lone) ∙ ap stopped place

    not_true : (b : Bool) → not b ≡ true → b ≡ false
    not_true true e = absurd (cc)
    not_true false e = refl

    by_tests : (b : Bool) → passes second_half h.here ≡ b → (b || (passes first_half h.here && not (passes second_half (drop 6 h.here)))) ≡ true → Reads 127 text ≡ stopped q
    by_tests true e g = low (escape_of is_low h.here e)
    by_tests false e g = high (escape_of is_high h.here (and_left _ _ g)) (not_true _ (and_right _ _ g))

-- ---- an escape of a second half that isn't whole is read to the end

pub half_named_reads : (bytes : List ℕ) → HalfNamed bytes → (n : ℕ) → run 127 n mode.Value false [] bytes ≡ stopped n
unfolding run
half_named_reads bytes h n = ap (run 127 n mode.Value false []) h.is ∙ r.reach 127 n h.part (omega arith) ∙ of_part h.part h.names h.digits h.open_
  where
    r : TextAt h.front
    r = text_at h.front h.escapes

    ends : (m : Mode) (s : Stack) → is_number_end m ≡ false → back m ≡ 0 → at_end n m s ≡ stopped n
    ends m [] f g = let same : n - 0 ≡ n = omega arith in rw (f, g) (ap stopped same)
    ends m (b ∷ s) f g = let same : n - 0 ≡ n = omega arith in rw g (ap stopped same)

    four : (u v a b : ℕ) (xs : List ℕ) → u ≡ 92 → v ≡ 117 → is_d a ≡ true → is_low b ≡ true → run 127 n mode.Text r.naming r.s (u ∷ v ∷ a ∷ b ∷ xs) ≡ run 127 n mode.Low2 r.naming r.s xs
    four u v a b xs e f ha hb = ap (λ u. run 127 n mode.Text r.naming r.s (u ∷ v ∷ a ∷ b ∷ xs)) e ∙ ap (λ v. run 127 n mode.Text r.naming r.s (92 ∷ v ∷ a ∷ b ∷ xs)) f ∙ low_begun n r.naming r.s a b xs ha hb

    of_part : (part : List ℕ) → fits second_half part ≡ true → 4 ≤ length part → length part ≤ 5 → run 127 n mode.Text r.naming r.s part ≡ stopped n
    of_part [] g lo hi = absurd (omega arith)
    of_part (u ∷ []) g lo hi = absurd (omega arith)
    of_part (u ∷ v ∷ []) g lo hi = absurd (omega arith)
    of_part (u ∷ v ∷ a ∷ []) g lo hi = absurd (omega arith)
    of_part (u ∷ v ∷ a ∷ b ∷ []) g lo hi =
        let g2 = and_right _ _ g in let g3 = and_right _ _ g2 in let g4 = and_right _ _ g3 in
        four u v a b [] (eqb-true u 92 (and_left _ _ g)) (eqb-true v 117 (and_left _ _ g2)) (and_left _ _ g3) (and_left _ _ g4) ∙ ends mode.Low2 r.s refl refl
    of_part (u ∷ v ∷ a ∷ b ∷ c ∷ []) g lo hi =
        let g2 = and_right _ _ g in let g3 = and_right _ _ g2 in let g4 = and_right _ _ g3 in let g5 = and_right _ _ g4 in
        four u v a b (c ∷ []) (eqb-true u 92 (and_left _ _ g)) (eqb-true v 117 (and_left _ _ g2)) (and_left _ _ g3) (and_left _ _ g4)
        ∙ low_third n r.naming r.s c [] (and_left _ _ g5) ∙ ends mode.Low1 r.s refl refl
    of_part (u ∷ v ∷ a ∷ b ∷ c ∷ d ∷ xs) g lo hi = absurd (omega arith)

-- ---- what a stop shows

alone_high : (a b c d : ℕ) (behind : List ℕ) → is_d a ≡ true → is_high b ≡ true → is_hex c ≡ true → is_hex d ≡ true → passes second_half behind ≡ false
    → is_alone (92 ∷ 117 ∷ a ∷ b ∷ c ∷ d ∷ behind) ≡ true
alone_high a b c d behind ha hb hc hd h = rw (ha, hb, hc, hd, high_not_low b hb, h)

alone_low : (a b c d : ℕ) (behind : List ℕ) → is_d a ≡ true → is_low b ≡ true → is_hex c ≡ true → is_hex d ≡ true → is_alone (92 ∷ 117 ∷ a ∷ b ∷ c ∷ d ∷ behind) ≡ true
alone_low a b c d behind ha hb hc hd = rw (ha, hb, hc, hd)

lone_at : (text front part rest : List ℕ) → text ≡ front ++ rest → (h : Half front part) → passes second_half (part ++ rest) ≡ false → (p : ℕ) → p ≡ length text - length rest - length part - 6 → LoneHalf text p
lone_at text front part rest is h lone p e =
    let w : List ℕ = 92 ∷ 117 ∷ h.a ∷ h.b ∷ h.c ∷ h.d ∷ part in
    let all : text ≡ h.behind.f ++ (w ++ rest) = is ∙ ap (λ z. z ++ rest) h.behind.is ∙ append_assoc h.behind.f w rest in
    record {
      front = h.behind.f;
      here = w ++ rest;
      is = all;
      at = omega (arith, e, ap length is, length-append front rest, ap length h.behind.is, length-append h.behind.f w);
      escapes = escapes_at h.behind.f h.behind.naming h.behind.s h.behind.reach;
      alone = alone_high h.a h.b h.c h.d (part ++ rest) h.is_first h.is_second h.is_third h.is_fourth lone;
    }

lone_low_at : (text front : List ℕ) (x : ℕ) (rest : List ℕ) → text ≡ front ++ x ∷ rest → (h : Third is_low front) → is_hex x ≡ true → (p : ℕ) → p ≡ length text - suc (length rest) - 5 → LoneHalf text p
lone_low_at text front x rest is h hx p e =
    let w : List ℕ = 92 ∷ 117 ∷ h.a ∷ h.b ∷ h.c ∷ [] in
    let all : text ≡ h.behind.f ++ (w ++ x ∷ rest) = is ∙ ap (λ z. z ++ x ∷ rest) h.behind.is ∙ append_assoc h.behind.f w (x ∷ rest) in
    record {
      front = h.behind.f;
      here = w ++ x ∷ rest;
      is = all;
      at = omega (arith, e, ap length is, length-append front (x ∷ rest), ap length h.behind.is, length-append h.behind.f w);
      escapes = escapes_at h.behind.f h.behind.naming h.behind.s h.behind.reach;
      alone = alone_low h.a h.b h.c x rest h.is_first h.is_second h.is_third hx;
    }

pub named_four : (front : List ℕ) → Second is_low front → HalfNamed front
named_four front h = record {
  front = h.behind.f;
  part = 92 ∷ 117 ∷ h.a ∷ h.b ∷ [];
  is = h.behind.is;
  escapes = escapes_at h.behind.f h.behind.naming h.behind.s h.behind.reach;
  names = rw (h.is_first, h.is_second);
  digits = omega arith;
  open_ = omega arith;
}

pub named_five : (front : List ℕ) → Third is_low front → HalfNamed front
named_five front h = record {
  front = h.behind.f;
  part = 92 ∷ 117 ∷ h.a ∷ h.b ∷ h.c ∷ [];
  is = h.behind.is;
  escapes = escapes_at h.behind.f h.behind.naming h.behind.s h.behind.reach;
  names = rw (h.is_first, h.is_second, h.is_third);
  digits = omega arith;
  open_ = omega arith;
}

-- half of a pair alone begins with a backslash
record Backslash (here : List ℕ) : Type 0 where
  rest : List ℕ
  is : here ≡ 92 ∷ rest

backslash : (here : List ℕ) → is_alone here ≡ true → Backslash here
backslash here h = by_tests (passes second_half here) refl h
  where
    by_tests : (b : Bool) → passes second_half here ≡ b → (b || (passes first_half here && not (passes second_half (drop 6 here)))) ≡ true → Backslash here
    by_tests true e g = let x = escape_of is_low here e in record { rest = 117 ∷ x.a ∷ x.b ∷ x.c ∷ x.d ∷ x.behind; is = x.is }
    by_tests false e g = let x = escape_of is_high here (and_left _ _ g) in record { rest = 117 ∷ x.a ∷ x.b ∷ x.c ∷ x.d ∷ x.behind; is = x.is }

stop_if : (t : Bool) (m : Mode) (k b : ℕ) → go_if t m k ≡ does.Stop b → (t ≡ false) × (b ≡ k)
stop_if true m k b e = absurd (cc)
stop_if false m k b e = (refl, cc)

close_if : (t : Bool) (m : Mode) (k : ℕ) → go_if t m k ≡ does.Close → ⊥
close_if true m k e = cc
close_if false m k e = cc

at_end_back : (n : ℕ) (m : Mode) (s : Stack) (p : ℕ) → at_end n m s ≡ stopped p → p ≡ n - back m
at_end_back n m [] p e = by_test (is_number_end m) e
  where
    by_test : (b : Bool) → cond b (ended n) (stopped (n - back m)) ≡ stopped p → p ≡ n - back m
    by_test true e = absurd (cc)
    by_test false e = sym (stopped_same _ _ e)
at_end_back n m (b ∷ s) p e = sym (stopped_same _ _ e)

last_escape : (naming : Bool) (s : Stack) → run 127 1 mode.Escape naming s [] ≡ stopped 1
unfolding run
last_escape naming [] = refl
last_escape naming (b ∷ s) = refl

-- ---- the text is read, and no value is over

module _ (text : List ℕ) (p : ℕ) (h : Reads 127 text ≡ stopped p) where
  module _ (r : Read text) where
    ends : (limit : ℕ) → 127 ≤ limit → Reads limit text ≡ at_end (length text) r.m r.s
    unfolding run
    ends limit big = ap (run limit (length text) mode.Value false []) (sym (nil text)) ∙ r.reach limit (length text) [] big

    at_end_is : at_end (length text) r.m r.s ≡ stopped p
    at_end_is = sym (ends 127 (omega arith)) ∙ h

    place : p ≡ length text - back r.m
    place = at_end_back (length text) r.m r.s p at_end_is

    no_text : (before : List ℕ) (v : Tree) (after : List ℕ) → IsJson text before v after → ⊥
    no_text before v after j = ended_stopped _ _ (sym (text_read (127 + depth v) text before v after j (omega arith)) ∙ ends (127 + depth v) (omega arith) ∙ at_end_is)

    no_lone : back r.m ≡ 0 → (q : ℕ) → LoneHalf text q → ⊥
    no_lone z q l =
        let same : p ≡ q = stopped_same _ _ (sym h ∙ alone_stops text q l) in
        let b = backslash l.here l.alone in
        absurd (omega (arith, same, place, z, l.at, ap length l.is, length-append l.front l.here, ap length b.is))

    unfinished : back r.m ≡ 0 → GoesOn 127 text → IsSyntaxFault text p
    unfinished z g = inr (record { front = text; rest = []; is = sym (nil text); at = omega (arith, place, z); goes_on = g; dead = no_text }, no_lone z)

    judge_read : (m : Mode) (naming : Bool) (s : Stack) → Reach text m naming s → Past m text → r.m ≡ m → IsSyntaxFault text p
    judge_read mode.Low2 naming s reach past e = unfinished (ap back e) (inr (named_four text past))
    judge_read mode.Low1 naming s reach past e = unfinished (ap back e) (inr (named_five text past))
    judge_read mode.Pair6 naming s reach past e = inl (lone_at text text [] [] (sym (nil text)) past refl p (omega (arith, place, ap back e)))
    judge_read mode.Pair5 naming s reach past e = inl (lone_at text text (92 ∷ []) [] (sym (nil text)) past refl p (omega (arith, place, ap back e)))
    judge_read mode.Pair4 naming s reach past e = inl (lone_at text text (92 ∷ 117 ∷ []) [] (sym (nil text)) past refl p (omega (arith, place, ap back e)))
    judge_read mode.Pair3 naming s reach past e = inl (lone_at text text (92 ∷ 117 ∷ past.0 ∷ []) [] (sym (nil text)) past.2 (rw past.1) p (omega (arith, place, ap back e)))
    judge_read mode.Pair2 naming s reach past e = inl (lone_at text text (92 ∷ 117 ∷ past.0 ∷ past.1 ∷ []) [] (sym (nil text)) past.4 (rw (past.2, past.3)) p (omega (arith, place, ap back e)))
    judge_read mode.Pair1 naming s reach past e = inl (lone_at text text (92 ∷ 117 ∷ past.0 ∷ past.1 ∷ past.2 ∷ []) [] (sym (nil text)) past.6 (rw (past.3, past.4, past.5)) p (omega (arith, place, ap back e)))
    judge_read m naming s reach past e = unfinished (ap back e) (inl (goes_on 127 text m naming s (λ n ys. reach 127 n ys (omega arith)) tt))

    read_fault : IsSyntaxFault text p
    read_fault = judge_read r.m r.naming r.s r.reach r.before refl

  -- ---- a byte is refused

  module _ (front : List ℕ) (x : ℕ) (rest : List ℕ) (is : text ≡ front ++ x ∷ rest) (b : ℕ)
      (says : (limit n : ℕ) (ys : List ℕ) → 127 ≤ limit → run limit n mode.Value false [] (front ++ x ∷ ys) ≡ stopped (n - suc (length ys) - b)) where
    stop_place : p ≡ length text - suc (length rest) - b
    stop_place = stopped_same _ _ (sym h ∙ ap (run 127 (length text) mode.Value false []) is ∙ says 127 (length text) rest (omega arith))

    dead_here : (levels : ℕ) → GoesOn levels (front ++ x ∷ []) → ⊥
    dead_here levels (inl t) = stopped_dead front x (λ n ys. n - suc (length ys) - b) says levels t
    dead_here levels (inr t) = absurd (omega (arith, stopped_same _ _ (sym (half_named_reads (front ++ x ∷ []) t 1) ∙ says 127 1 [] (omega arith))))

    not_here : b ≡ 0 → (q : ℕ) → LoneHalf text q → ⊥
    not_here z q l =
        let same : p ≡ q = stopped_same _ _ (sym h ∙ alone_stops text q l) in
        let w = backslash l.here l.alone in
        let split : front ++ x ∷ rest ≡ l.front ++ 92 ∷ w.rest = sym is ∙ l.is ∙ ap (λ z. l.front ++ z) w.is in
        let size : length (x ∷ rest) ≡ length (92 ∷ w.rest) = omega (arith, same, stop_place, z, l.at, ap length is, length-append front (x ∷ rest), ap length l.is, length-append l.front l.here, ap length w.is) in
        let f : front ≡ l.front = same_front front (x ∷ rest) l.front (92 ∷ w.rest) split size in
        let y = same_head x 92 rest w.rest (same_back front (x ∷ rest) l.front (92 ∷ w.rest) split size) in
        clash l f y
      where
        same_head : (a b : ℕ) (xs ys : List ℕ) → a ∷ xs ≡ b ∷ ys → a ≡ b
        same_head a b xs ys e = cc

        clash : (l : LoneHalf text q) → front ≡ l.front → x ≡ 92 → ⊥
        clash l f y =
            let t = text_at l.front l.escapes in
            let one = ap (λ z. run 127 1 mode.Value false [] (z ++ x ∷ [])) f ∙ ap (λ y. run 127 1 mode.Value false [] (l.front ++ y ∷ [])) y ∙ t.reach 127 1 (92 ∷ []) (omega arith)
            ∙ byte 127 1 mode.Text t.naming t.s 92 [] (does.Go mode.Escape) refl ∙ last_escape t.naming t.s in
            absurd (omega (arith, stopped_same _ _ (sym one ∙ says 127 1 [] (omega arith))))

    refused_here : b ≡ 0 → GoesOn 127 front → IsSyntaxFault text p
    refused_here z g = inr (record { front = front; rest = x ∷ rest; is = is; at = omega (arith, stop_place, z, ap length is, length-append front (x ∷ rest)); goes_on = g; dead = dead_here }, not_here z)

  module _ (c : Halted text) (b : ℕ)
      (says : (limit n : ℕ) (ys : List ℕ) → 127 ≤ limit → run limit n c.m c.naming c.s (c.x ∷ ys) ≡ decided (stop_at b) n (length ys)) where
    all_say : (limit n : ℕ) (ys : List ℕ) → 127 ≤ limit → run limit n mode.Value false [] (c.front ++ c.x ∷ ys) ≡ stopped (n - suc (length ys) - b)
    all_say limit n ys big = c.reach limit n (c.x ∷ ys) big ∙ says limit n ys big

    at_place : p ≡ length text - suc (length c.rest) - b
    at_place = stop_place c.front c.x c.rest c.is b all_say

    refused : b ≡ 0 → GoesOn 127 c.front → IsSyntaxFault text p
    refused z g = refused_here c.front c.x c.rest c.is b all_say z g

    alone_here : (part : List ℕ) → Half c.front part → passes second_half (part ++ c.x ∷ c.rest) ≡ false → b ≡ 6 + length part → IsSyntaxFault text p
    alone_here part half lone e = inl (lone_at text c.front part (c.x ∷ c.rest) c.is half lone p (omega (arith, at_place, e)))

    -- a refusal by a mode that looks back
    looked : (t : Bool) (m : Mode) (k : ℕ) → (go_if t m k ≡ does.Stop b) ⊎ ((go_if t m k ≡ does.Close) × (b ≡ 0)) → (t ≡ false) × (b ≡ k)
    looked t m k (inl e) = stop_if t m k b e
    looked t m k (inr e) = absurd (close_if t m k e.0)

    zero : (front : List ℕ) (a : Action) → StopsHere a → (a ≡ does.Stop b) ⊎ ((a ≡ does.Close) × (b ≡ 0)) → b ≡ 0
    zero front a s (inl e) = let P : Action → Type 0 = λ a. StopsHere a in subst P e s
    zero front a s (inr e) = e.1

    last_low : (t : Bool) → is_hex c.x ≡ t → (does.Stop (cond t 5 0) ≡ does.Stop b) ⊎ ((does.Stop (cond t 5 0) ≡ does.Close) × (b ≡ 0)) → Third is_low c.front → IsSyntaxFault text p
    last_low true hx (inl e) third = let five : 5 ≡ b = stop_same 5 b e in inl (lone_low_at text c.front c.x c.rest c.is third hx p (omega (arith, at_place, five)))
      where
        stop_same : (i j : ℕ) → does.Stop i ≡ does.Stop j → i ≡ j
        stop_same i j e = cc
    last_low false hx (inl e) third = let none : 0 ≡ b = stop_same 0 b e in refused (sym none) (inr (named_five c.front third))
      where
        stop_same : (i j : ℕ) → does.Stop i ≡ does.Stop j → i ≡ j
        stop_same i j e = cc
    last_low t hx (inr e) third = absurd (not_close _ e.0)
      where
        not_close : (i : ℕ) → does.Stop i ≡ does.Close → ⊥
        not_close i e = cc

    judge : (m : Mode) (naming : Bool) (s : Stack) → Reach c.front m naming s → Past m c.front → Why (stop_at b) (step m naming (top_of s) c.x) → IsSyntaxFault text p
    judge mode.Low2 naming s reach past why = refused (zero c.front _ (fine mode.Low2 naming s c.front c.x refl reach past).here why) (inr (named_four c.front past))
    judge mode.Low1 naming s reach past why = last_low (is_hex c.x) refl why past
    judge mode.Pair6 naming s reach past why = let k = looked (c.x == 92) mode.Pair5 6 why in alone_here [] past (rw k.0) k.1
    judge mode.Pair5 naming s reach past why = let k = looked (c.x == 117) mode.Pair4 7 why in alone_here (92 ∷ []) past (rw k.0) k.1
    judge mode.Pair4 naming s reach past why = let k = looked (is_d c.x) mode.Pair3 8 why in alone_here (92 ∷ 117 ∷ []) past (rw k.0) k.1
    judge mode.Pair3 naming s reach past why = let k = looked (is_low c.x) mode.Pair2 9 why in alone_here (92 ∷ 117 ∷ past.0 ∷ []) past.2 (rw (past.1, k.0)) k.1
    judge mode.Pair2 naming s reach past why = let k = looked (is_hex c.x) mode.Pair1 10 why in alone_here (92 ∷ 117 ∷ past.0 ∷ past.1 ∷ []) past.4 (rw (past.2, past.3, k.0)) k.1
    judge mode.Pair1 naming s reach past why = let k = looked (is_hex c.x) mode.Text 11 why in alone_here (92 ∷ 117 ∷ past.0 ∷ past.1 ∷ past.2 ∷ []) past.6 (rw (past.3, past.4, past.5, k.0)) k.1
    judge m naming s reach past why =
        refused (zero c.front _ (fine m naming s c.front c.x refl reach past).here why) (inl (goes_on 127 c.front m naming s (λ n ys. reach 127 n ys (omega arith)) tt))

  halted_fault : (c : Halted text) (v : Verdict) → ((limit n : ℕ) (ys : List ℕ) → 127 ≤ limit → run limit n c.m c.naming c.s (c.x ∷ ys) ≡ decided v n (length ys))
      → Why v (step c.m c.naming (top_of c.s) c.x) → IsSyntaxFault text p
  halted_fault c (stop_at b) says why = judge c b says c.m c.naming c.s c.reach c.before why
  halted_fault c over says why = absurd (ended_stopped _ _ (sym (ap (run 127 (length text) mode.Value false []) c.is ∙ c.reach 127 (length text) (c.x ∷ c.rest) (omega arith) ∙ says 127 (length text) c.rest (omega arith)) ∙ h))
  halted_fault c done says why = absurd (ended_stopped _ _ (sym (ap (run 127 (length text) mode.Value false []) c.is ∙ c.reach 127 (length text) (c.x ∷ c.rest) (omega arith) ∙ says 127 (length text) c.rest (omega arith)) ∙ h))

-- a byte that opens level 128
pub sunk_reads : (text : List ℕ) (c : Sunk text) → (n : ℕ) (ys : List ℕ) → run 127 n mode.Value false [] (c.front ++ c.x ∷ ys) ≡ too_deep (n - suc (length ys))
sunk_reads text c n ys =
    c.reach 127 n (c.x ∷ ys) (omega arith) ∙ byte 127 n c.m c.naming c.s c.x ys (does.Open c.b) c.opens
    ∙ ap (λ k. cond (nat_lt k 127) (run 127 n (first_of c.b) c.naming (c.b ∷ c.s) ys) (too_deep (n - suc (length ys)))) c.size

-- a value that stops is refused where the grammar says
pub stop_fault : (text : List ℕ) (p : ℕ) → Reads 127 text ≡ stopped p → IsSyntaxFault text p
stop_fault text p h = by_course (course text)
  where
    by_course : Course text → IsSyntaxFault text p
    by_course (read r) = read_fault text p h r
    by_course (halted c) = halted_fault text p h c c.verdict c.says c.why
    by_course (sunk c) = absurd (stopped_deep _ _ (sym h ∙ ap (run 127 (length text) mode.Value false []) c.is ∙ sunk_reads text c (length text) c.rest))

-- ---- level 128

deep_same : (p q : ℕ) → too_deep p ≡ too_deep q → p ≡ q
deep_same p q e = cc

opens_alive : (m : Mode) (naming : Bool) (s : Stack) (x : ℕ) (b : Bool) → step m naming (top_of s) x ≡ does.Open b → IsAlive m
opens_alive mode.Low2 naming s x b e = absurd (not_open (is_hex x) e)
  where
    not_open : (t : Bool) → go_if t mode.Low1 0 ≡ does.Open b → ⊥
    not_open true e = cc
    not_open false e = cc
opens_alive mode.Low1 naming s x b e = absurd (not_open _ e)
  where
    not_open : (k : ℕ) → does.Stop k ≡ does.Open b → ⊥
    not_open k e = cc
opens_alive m naming s x b e = tt

sunk_fault : (text : List ℕ) (p : ℕ) → Reads 127 text ≡ too_deep p → Sunk text → IsDeepFault text p
sunk_fault text p h c = record {
  front = c.front;
  x = c.x;
  rest = c.rest;
  is = c.is;
  at = omega (arith, deep_same _ _ (sym h ∙ ap (run 127 (length text) mode.Value false []) c.is ∙ sunk_reads text c (length text) c.rest), ap length c.is, length-append c.front (c.x ∷ c.rest));
  goes_on = goes_on 127 c.front c.m c.naming c.s (λ n ys. c.reach 127 n ys (omega arith)) (opens_alive c.m c.naming c.s c.x c.b c.opens);
  over = λ b.
      let t = (c.front ++ c.x ∷ []) ++ b.more in
      ended_deep _ _ (sym (text_read 127 t b.before b.v b.after b.json b.within) ∙ ap (run 127 (length t) mode.Value false []) (append_assoc c.front (c.x ∷ []) b.more) ∙ sunk_reads text c (length t) b.more);
  deeper = goes_on 128 (c.front ++ c.x ∷ []) (first_of c.b) c.naming (c.b ∷ c.s)
      (λ n ys. ap (run 128 n mode.Value false []) (append_assoc c.front (c.x ∷ []) ys) ∙ c.reach 128 n (c.x ∷ ys) (omega arith) ∙ byte 128 n c.m c.naming c.s c.x ys (does.Open c.b) c.opens
      ∙ ap (λ t. cond t (run 128 n (first_of c.b) c.naming (c.b ∷ c.s) ys) (too_deep (n - suc (length ys)))) (lt-ltb (length c.s) 128 (omega (arith, c.size)))) (alive c.b);
}
  where
    alive : (b : Bool) → IsAlive (first_of b)
    alive true = tt
    alive false = tt

at_end_not_deep : (n : ℕ) (m : Mode) (s : Stack) (p : ℕ) → at_end n m s ≡ too_deep p → ⊥
at_end_not_deep n m [] p e = by_test (is_number_end m) e
  where
    by_test : (b : Bool) → cond b (ended n) (stopped (n - back m)) ≡ too_deep p → ⊥
    by_test true e = cc
    by_test false e = cc
at_end_not_deep n m (b ∷ s) p e = cc

all_read : (text : List ℕ) (r : Read text) → Reads 127 text ≡ at_end (length text) r.m r.s
unfolding run
all_read text r = ap (run 127 (length text) mode.Value false []) (sym (nil text)) ∙ r.reach 127 (length text) [] (omega arith)

all_halted : (text : List ℕ) (c : Halted text) → Reads 127 text ≡ decided c.verdict (length text) (length c.rest)
all_halted text c = ap (run 127 (length text) mode.Value false []) c.is ∙ c.reach 127 (length text) (c.x ∷ c.rest) (omega arith) ∙ c.says 127 (length text) c.rest (omega arith)

decided_not_deep : (v : Verdict) (n k p : ℕ) → decided v n k ≡ too_deep p → ⊥
decided_not_deep (stop_at b) n k p e = cc
decided_not_deep over n k p e = cc
decided_not_deep done n k p e = cc

pub deep_fault : (text : List ℕ) (p : ℕ) → Reads 127 text ≡ too_deep p → IsDeepFault text p
deep_fault text p h = by_course (course text)
  where
    by_course : Course text → IsDeepFault text p
    by_course (read r) = absurd (at_end_not_deep _ _ _ p (sym (all_read text r) ∙ h))
    by_course (halted c) = absurd (decided_not_deep c.verdict _ _ p (sym (all_halted text c) ∙ h))
    by_course (sunk c) = sunk_fault text p h c

-- ---- behind the value

-- the second list begins as the first
abbrev SameHead : List ℕ → List ℕ → Type 0
SameHead [] ys = Unit {0}
SameHead (x ∷ w) [] = ⊥
SameHead (x ∷ w) (y ∷ ys) = x ≡ y

same_head : (ws : List ℕ) (y : ℕ) (r more : List ℕ) → SameHead (ws ++ y ∷ r) (ws ++ y ∷ more)
same_head [] y r more = refl
same_head (x ∷ ws) y r more = refl

is_space_in : (ws : List ℕ) (y : ℕ) (more : List ℕ) → AreSpaces (ws ++ y ∷ more) → IsTrue (is_space y)
is_space_in [] y more h = h.0
is_space_in (x ∷ ws) y more h = is_space_in ws y more h.1

not_ended : (text : List ℕ) (to p : ℕ) → to + space_len (drop to text) ≡ length text → at_the_end text to ≡ stopped p → ⊥
not_ended text to p e h = ended_stopped _ _ (sym (end_at text to e) ∙ h)

stop_behind : (text : List ℕ) (to p : ℕ) → at_the_end text to ≡ stopped p → p ≡ to + space_len (drop to text)
stop_behind text to p h = by_test (to + space_len (drop to text) == length text) h
  where
    by_test : (b : Bool) → cond b (ended to) (stopped (to + space_len (drop to text))) ≡ stopped p → p ≡ to + space_len (drop to text)
    by_test true e = absurd (ended_stopped _ _ e)
    by_test false e = sym (stopped_same _ _ e)

module _ (text u w : List ℕ) (p : ℕ) (is : text ≡ u ++ w)
    (tells : (limit n : ℕ) (ys : List ℕ) → 127 ≤ limit → SameHead w ys → run limit n mode.Value false [] (u ++ ys) ≡ ended (n - length ys))
    (itself : Reads 127 text ≡ ended (length text - length w)) (h : at_the_end text (length u) ≡ stopped p) where
  left : drop (length u) text ≡ w
  left = ap (drop (length u)) is ∙ drop_front u w

  behind_at : (ws : List ℕ) (y : ℕ) (r : List ℕ) → w ≡ ws ++ y ∷ r → AreSpaces ws → is_space y ≡ false → IsSyntaxFault text p
  behind_at ws y r at are none =
      let t = value_in 127 text u w is itself in
      let size : space_len w ≡ length ws = ap space_len at ∙ space_len-append ws (y ∷ r) are none in
      let place : p ≡ length u + length ws = stop_behind text (length u) p h ∙ ap (λ z. length u + space_len z) left ∙ ap (λ k. length u + k) size in
      inr (
        record {
          front = u ++ ws;
          rest = y ∷ r;
          is = is ∙ ap (λ z. u ++ z) at ∙ sym (append_assoc u ws (y ∷ r));
          at = place ∙ sym (length-append u ws);
          goes_on = inl (record {
            more = [];
            before = t.before;
            v = t.v;
            after = ws;
            json = record { is = nil (u ++ ws) ∙ ap (λ z. z ++ ws) t.is ∙ append_assoc t.before (spelling t.v) ws; is_before = t.is_before; is_tree = t.is_tree; is_after = are };
            within = t.within;
          });
          dead = dead;
        },
        λ q l. ended_stopped _ _ (sym itself ∙ alone_stops text q l),
      )
    where
      heads : (more : List ℕ) → SameHead w (ws ++ y ∷ more)
      heads more = let P : List ℕ → Type 0 = λ z. SameHead z (ws ++ y ∷ more) in subst P (sym at) (same_head ws y r more)

      apart : (more : List ℕ) → ((u ++ ws) ++ y ∷ []) ++ more ≡ u ++ (ws ++ y ∷ more)
      apart more = simp append_assoc

      unlike : true ≡ false → ⊥
      unlike e = cc

      dead : (levels : ℕ) → GoesOn levels ((u ++ ws) ++ y ∷ []) → ⊥
      dead levels (inl b) =
          let t = ((u ++ ws) ++ y ∷ []) ++ b.more in
          let told = ap (run (127 + levels) (length t) mode.Value false []) (apart b.more) ∙ tells (127 + levels) (length t) (ws ++ y ∷ b.more) (omega arith) (heads b.more) in
          let all = spaces_behind (127 + levels) t u (ws ++ y ∷ b.more) b.before b.v b.after b.json (omega (arith, b.within)) (apart b.more) told in
          let yes = holds (is_space_in ws y b.more all) in
          unlike (sym yes ∙ none)
      dead levels (inr t) =
          ended_stopped _ _ (sym (ap (run 127 1 mode.Value false []) (append_assoc u ws (y ∷ [])) ∙ tells 127 1 (ws ++ y ∷ []) (omega arith) (heads [])) ∙ half_named_reads ((u ++ ws) ++ y ∷ []) t 1)

  behind_by : (ws rest : List ℕ) → w ≡ ws ++ rest → AreSpaces ws → Headed (λ x. is_space x ≡ false) rest → IsSyntaxFault text p
  behind_by ws [] at are none =
      let size : space_len w ≡ length w = ap space_len at ∙ space_len-append ws [] are tt ∙ sym (ap length (at ∙ nil ws)) in
      absurd (not_ended text (length u) p (ap (λ z. length u + space_len z) left ∙ ap (λ k. length u + k) size ∙ sym (ap length is ∙ length-append u w)) h)
  behind_by ws (y ∷ r) at are none = behind_at ws y r at are none

  behind_fault : IsSyntaxFault text p
  behind_fault = let s = spaces_of w in behind_by s.ws s.rest s.is s.are s.over

-- ---- the whole text

pub whole_reads : (text : List ℕ) → whole text ≡ and_then_the_end text (Reads 127 text)
whole_reads text =
    let w = spaces_of text in
    let n : space_len text ≡ length w.ws = ap space_len w.is ∙ space_len-append w.ws w.rest w.are w.over in
    let left : drop (length w.ws) text ≡ w.rest = ap (drop (length w.ws)) w.is ∙ drop_front w.ws w.rest in
    let size : length w.ws + length w.rest ≡ length text = sym (ap length w.is ∙ length-append w.ws w.rest) in
    ap (λ k. and_then_the_end text (value_at k (drop k text))) n ∙ ap (λ r. and_then_the_end text (value_at (length w.ws) r)) left
    ∙ ap (λ k. and_then_the_end text (run 127 k mode.Value false [] w.rest)) size
    ∙ ap (and_then_the_end text) (sym (spaces 127 (length text) mode.Value false [] (stays_value [] mode.Value (value_begins [])) w.ws w.rest w.are) ∙ ap (run 127 (length text) mode.Value false []) (sym w.is))

at_end_ended : (n : ℕ) (m : Mode) (s : Stack) (e : ℕ) → at_end n m s ≡ ended e → n ≡ e
at_end_ended n m [] e h = by_test (is_number_end m) h
  where
    by_test : (b : Bool) → cond b (ended n) (stopped (n - back m)) ≡ ended e → n ≡ e
    by_test true h = cc
    by_test false h = absurd (cc)
at_end_ended n m (b ∷ s) e h = absurd (cc)

ended_same : (p q : ℕ) → ended p ≡ ended q → p ≡ q
ended_same p q e = cc

nothing_left : (n : ℕ) (xs : List ℕ) → length xs ≡ n → n + space_len (drop n xs) ≡ n
unfolding space_len
nothing_left n xs e = let same : drop n xs ≡ [] = ap (λ k. drop k xs) (sym e) ∙ ap (drop (length xs)) (sym (nil xs)) ∙ drop_front xs [] in rw same (omega arith)

value_fault : (text : List ℕ) (e p : ℕ) → Reads 127 text ≡ ended e → at_the_end text e ≡ stopped p → IsSyntaxFault text p
value_fault text e p h g = by_course (course text)
  where
    by_verdict : (c : Halted text) (v : Verdict) → ((limit n : ℕ) (ys : List ℕ) → 127 ≤ limit → run limit n c.m c.naming c.s (c.x ∷ ys) ≡ decided v n (length ys))
        → Reads 127 text ≡ decided v (length text) (length c.rest) → IsSyntaxFault text p
    by_verdict c (stop_at b) says all = absurd (ended_stopped _ _ (sym h ∙ all))
    by_verdict c over says all =
        let to : e ≡ length c.front = omega (arith, ended_same _ _ (sym h ∙ all), ap length c.is, length-append c.front (c.x ∷ c.rest)) in
        behind_fault text c.front (c.x ∷ c.rest) p c.is (tells c says) all (ap (at_the_end text) (sym to) ∙ g)
      where
        tells : (c : Halted text) → ((limit n : ℕ) (ys : List ℕ) → 127 ≤ limit → run limit n c.m c.naming c.s (c.x ∷ ys) ≡ ended (n - suc (length ys)))
            → (limit n : ℕ) (ys : List ℕ) → 127 ≤ limit → SameHead (c.x ∷ c.rest) ys → run limit n mode.Value false [] (c.front ++ ys) ≡ ended (n - length ys)
        tells c says limit n [] big same = absurd same
        tells c says limit n (y ∷ ys) big same = ap (λ y. run limit n mode.Value false [] (c.front ++ y ∷ ys)) (sym same) ∙ c.reach limit n (c.x ∷ ys) big ∙ says limit n ys big
    by_verdict c done says all =
        let split : text ≡ (c.front ++ c.x ∷ []) ++ c.rest = c.is ∙ sym (append_assoc c.front (c.x ∷ []) c.rest) in
        let to : e ≡ length (c.front ++ c.x ∷ []) = omega (arith, ended_same _ _ (sym h ∙ all), ap length split, length-append (c.front ++ c.x ∷ []) c.rest) in
        behind_fault text (c.front ++ c.x ∷ []) c.rest p split
        (λ limit n ys big same. ap (run limit n mode.Value false []) (append_assoc c.front (c.x ∷ []) ys) ∙ c.reach limit n (c.x ∷ ys) big ∙ says limit n ys big) all (ap (at_the_end text) (sym to) ∙ g)

    by_course : Course text → IsSyntaxFault text p
    by_course (read r) =
        let to : length text ≡ e = at_end_ended _ _ _ e (sym (all_read text r) ∙ h) in
        absurd (not_ended text e p (ap (λ k. k + space_len (drop k text)) (sym to) ∙ nothing_left (length text) text refl) g)
    by_course (halted c) = by_verdict c c.verdict c.says (all_halted text c)
    by_course (sunk c) = absurd (ended_deep _ _ (sym h ∙ ap (run 127 (length text) mode.Value false []) c.is ∙ sunk_reads text c (length text) c.rest))

pub syntax_fault : (text : List ℕ) (p : ℕ) → whole text ≡ stopped p → IsSyntaxFault text p
syntax_fault text p h = by_outcome (Reads 127 text) refl (sym (whole_reads text) ∙ h)
  where
    by_outcome : (o : Outcome) → Reads 127 text ≡ o → and_then_the_end text o ≡ stopped p → IsSyntaxFault text p
    by_outcome (ended e) r g = value_fault text e p r g
    by_outcome (stopped q) r g = stop_fault text p (r ∙ g)
    by_outcome (too_deep q) r g = absurd (cc)

pub level_fault : (text : List ℕ) (p : ℕ) → whole text ≡ too_deep p → IsDeepFault text p
level_fault text p h = by_outcome (Reads 127 text) refl (sym (whole_reads text) ∙ h)
  where
    not_deep : (e : ℕ) → at_the_end text e ≡ too_deep p → ⊥
    not_deep e g = by_test (e + space_len (drop e text) == length text) g
      where
        by_test : (b : Bool) → cond b (ended e) (stopped (e + space_len (drop e text))) ≡ too_deep p → ⊥
        by_test true g = cc
        by_test false g = cc

    by_outcome : (o : Outcome) → Reads 127 text ≡ o → and_then_the_end text o ≡ too_deep p → IsDeepFault text p
    by_outcome (ended e) r g = absurd (not_deep e g)
    by_outcome (stopped q) r g = absurd (cc)
    by_outcome (too_deep q) r g = deep_fault text p (r ∙ g)

-- ---- why a text is refused

pub refused_by : (bytes : List ℕ) (e : JsonFault) → IsUtf8 bytes → as_result (whole bytes) ≡ Err e → Refuses bytes e
refused_by bytes e utf8 h = by_outcome (whole bytes) refl e h
  where
    by_outcome : (o : Outcome) → whole bytes ≡ o → (e : JsonFault) → as_result o ≡ Err e → Refuses bytes e
    by_outcome (ended p) w e f = absurd (cc)
    by_outcome (stopped p) w fault.NotUtf8 f = absurd (cc)
    by_outcome (stopped p) w (fault.Syntax q) f = let same : p ≡ q = cc in (utf8, syntax_fault bytes q (w ∙ ap stopped same))
    by_outcome (stopped p) w (fault.Deep q) f = absurd (cc)
    by_outcome (stopped p) w (fault.Repeated q r) f = absurd (cc)
    by_outcome (stopped p) w (fault.Many q) f = absurd (cc)
    by_outcome (stopped p) w fault.Memory f = absurd (cc)
    by_outcome (too_deep p) w fault.NotUtf8 f = absurd (cc)
    by_outcome (too_deep p) w (fault.Syntax q) f = absurd (cc)
    by_outcome (too_deep p) w (fault.Deep q) f = let same : p ≡ q = cc in (utf8, level_fault bytes q (w ∙ ap too_deep same))
    by_outcome (too_deep p) w (fault.Repeated q r) f = absurd (cc)
    by_outcome (too_deep p) w (fault.Many q) f = absurd (cc)
    by_outcome (too_deep p) w fault.Memory f = absurd (cc)

-- A text is refused in one way: each fault of the grammar is where the machine stops.
use Rattle.std.proofs.Common.{◌≡◌, ◌⊎◌, ℕ, suc, ◌+◌, ◌-◌, ◌<◌, ◌≤◌, Bool, true, false, cond, nat_lt, List, [], ◌∷◌, ◌++◌, length, length-append, refl, ap, ◌∙◌, sym, arith, subst, inl, inr, Err}
use Rattle.std.proofs.lemmas.List.{append_assoc}
use Rattle.std.proofs.lemmas.Bool.Decides.{nat_tests}
use Rattle.std.specs.Prelude.{IsUtf8}
use Rattle.json_spans.specs.Bytes.{is_hex}
use Rattle.json_spans.specs.Grammar.{Tree, spelling}
use Rattle.json_spans.specs.Faults.{Begins, LoneHalf, HalfNamed, GoesOn, Dead, FirstDead, IsSyntaxFault, IsDeepFault}
use Rattle.json_spans.specs.Table.{back, is_number_end}
use Rattle.json_spans.specs.Machine.{Outcome, ended, stopped, too_deep, Stack, run, at_end, as_result}
use Rattle.json_spans.specs.Parts.{IsText}
use Rattle.json_spans.specs.Cut.{and_then_the_end, whole, Refuses}
use Rattle.json_spans.specs.OneWay.{RefusedOneWay, NotBoth}
use Rattle.json_spans.specs.declared.fault.JsonFault.{JsonFault}
use Rattle.json_spans.specs.declared.fault.JsonFault.TheVariants as fault
use Rattle.json_spans.specs.declared.table.Mode.{Mode}
use Rattle.json_spans.specs.declared.table.Mode.TheVariants as mode
use Rattle.json_spans.specs.declared.table.Action.TheVariants as does
use Rattle.json_spans.proofs.Forward.{byte}
use Rattle.json_spans.proofs.Texts.{nil, whole_back, not_refused}
use Rattle.json_spans.proofs.Completing.{same_back, same_front, goes_on, text_read, spaces_behind, value_in}
use Rattle.json_spans.proofs.Course.{Reach, Past, Verdict, stop_at, over, done, decided, Halted, Sunk, Course, read, halted, sunk, course}
use Rattle.json_spans.proofs.Refusals.{Reads, ended_stopped, ended_deep, stopped_deep, stopped_same, alone_stops, half_named_reads, named_four, named_five, sunk_reads, syntax_fault, level_fault, whole_reads}

-- ---- of two fronts of one list, the longer begins with the shorter

record Longer (u r v : List ℕ) : Type 0 where
  x : ℕ
  mid : List ℕ
  rest : List ℕ
  is : v ≡ u ++ x ∷ mid
  next : r ≡ x ∷ rest

head_of : (x y : ℕ) (r s : List ℕ) → x ∷ r ≡ y ∷ s → x ≡ y
head_of x y r s e = cc

tail_of : (x y : ℕ) (r s : List ℕ) → x ∷ r ≡ y ∷ s → r ≡ s
tail_of x y r s e = cc

longer : (u r v s : List ℕ) → u ++ r ≡ v ++ s → length u < length v → Longer u r v
longer [] r [] s e h = absurd (omega arith)
longer [] r (x ∷ v) s e h = record { x = x; mid = v; rest = v ++ s; is = refl; next = e }
longer (y ∷ u) r [] s e h = absurd (omega arith)
longer (y ∷ u) r (x ∷ v) s e h =
    let k = longer u r v s (tail_of y x (u ++ r) (v ++ s) e) (omega arith) in
    record { x = k.x; mid = k.mid; rest = k.rest; is = ap (λ z. z ∷ v) (sym (head_of y x (u ++ r) (v ++ s) e)) ∙ ap (λ z. y ∷ z) k.is; next = k.next }

pub data Order (m n : ℕ) : Type 0 where
  below : m < n → Order m n
  above : n < m → Order m n
  same : m ≡ n → Order m n

order : (m n : ℕ) → Order m n
order m n = by_tests (nat_lt m n) (nat_lt n m) refl refl
  where
    by_tests : (a b : Bool) → nat_lt m n ≡ a → nat_lt n m ≡ b → Order m n
    by_tests true b e f = below (grind (arith, nat_tests))
    by_tests false true e f = above (grind (arith, nat_tests))
    by_tests false false e f = same (grind (arith, nat_tests))

-- ---- within an escape of a second half alone, no text goes on

low_end : (n : ℕ) (m : Mode) (s : Stack) → is_number_end m ≡ false → (q : ℕ) × (at_end n m s ≡ stopped q)
low_end n m [] e = (n - back m, rw e)
low_end n m (b ∷ s) e = (n - back m, refl)

low_last : (limit n : ℕ) (naming : Bool) (s : Stack) (ys : List ℕ) → (q : ℕ) × (run limit n mode.Low1 naming s ys ≡ stopped q)
unfolding run
low_last limit n naming s [] = low_end n mode.Low1 s refl
low_last limit n naming s (x ∷ ys) = (n - suc (length ys) - cond (is_hex x) 5 0, byte limit n mode.Low1 naming s x ys (does.Stop (cond (is_hex x) 5 0)) refl)

low_first : (limit n : ℕ) (naming : Bool) (s : Stack) (ys : List ℕ) → (q : ℕ) × (run limit n mode.Low2 naming s ys ≡ stopped q)
unfolding run
low_first limit n naming s [] = low_end n mode.Low2 s refl
low_first limit n naming s (x ∷ ys) = by_test (is_hex x) refl
  where
    by_test : (b : Bool) → is_hex x ≡ b → (q : ℕ) × (run limit n mode.Low2 naming s (x ∷ ys) ≡ stopped q)
    by_test true e = let t = low_last limit n naming s ys in (t.0, byte limit n mode.Low2 naming s x ys (does.Go mode.Low1) (rw e) ∙ t.1)
    by_test false e = (n - suc (length ys) - 0, byte limit n mode.Low2 naming s x ys (does.Stop 0) (rw e))

low_dead : (u : List ℕ) (m : Mode) (naming : Bool) (s : Stack) → Reach u m naming s → ((limit n : ℕ) (ys : List ℕ) → (q : ℕ) × (run limit n m naming s ys ≡ stopped q))
    → (levels : ℕ) → Begins levels u → ⊥
low_dead u m naming s r stops levels b =
    let t = u ++ b.more in
    let k = stops (127 + levels) (length t) b.more in
    ended_stopped _ _ (sym (text_read (127 + levels) t b.before b.v b.after b.json (omega (arith, b.within))) ∙ r (127 + levels) (length t) b.more (omega arith) ∙ k.1)

-- ---- a byte that opens level 128 is where the machine says so

module _ (text : List ℕ) (p : ℕ) (d : IsDeepFault text p) where
  abbrev u : List ℕ
  u = d.front ++ d.x ∷ []

  abbrev t : List ℕ
  t = u ++ d.deeper.more

  not_read : (m : Mode) (naming : Bool) (s : Stack) → Reach u m naming s → ⊥
  not_read mode.Low2 naming s r = low_dead u mode.Low2 naming s r (λ limit n ys. low_first limit n naming s ys) 128 d.deeper
  not_read mode.Low1 naming s r = low_dead u mode.Low1 naming s r (λ limit n ys. low_last limit n naming s ys) 128 d.deeper
  not_read m naming s r = d.over (goes_on 127 u m naming s (λ n ys. r 127 n ys (omega arith)) tt)

  -- a value that 127 levels do for
  shallow : (v w : List ℕ) → t ≡ v ++ w → ((limit : ℕ) → 127 ≤ limit → Reads limit t ≡ ended (length t - length w)) → ⊥
  shallow v w is h =
      let k = value_in 127 t v w is (h 127 (omega arith)) in
      let spaces = spaces_behind 128 t v w d.deeper.before d.deeper.v d.deeper.after d.deeper.json d.deeper.within is (h 128 (omega arith)) in
      d.over (record {
        more = d.deeper.more;
        before = k.before;
        v = k.v;
        after = w;
        json = record { is = is ∙ ap (λ z. z ++ w) k.is ∙ append_assoc k.before (spelling k.v) w; is_before = k.is_before; is_tree = k.is_tree; is_after = spaces };
        within = k.within;
      })

  not_halted : (h : Halted u) (v : Verdict) → ((limit n : ℕ) (ys : List ℕ) → 127 ≤ limit → run limit n h.m h.naming h.s (h.x ∷ ys) ≡ decided v n (length ys)) → ⊥
  not_halted h v says = decide v (λ limit big. ap (run limit (length t) mode.Value false []) all ∙ h.reach limit (length t) (h.x ∷ (h.rest ++ d.deeper.more)) big ∙ says limit (length t) (h.rest ++ d.deeper.more) big)
    where
      all : t ≡ h.front ++ h.x ∷ (h.rest ++ d.deeper.more)
      all = ap (λ z. z ++ d.deeper.more) h.is ∙ append_assoc h.front (h.x ∷ h.rest) d.deeper.more

      decide : (v : Verdict) → ((limit : ℕ) → 127 ≤ limit → Reads limit t ≡ decided v (length t) (length (h.rest ++ d.deeper.more))) → ⊥
      decide (stop_at b) told = ended_stopped _ _ (sym (text_read 128 t d.deeper.before d.deeper.v d.deeper.after d.deeper.json d.deeper.within) ∙ told 128 (omega arith))
      decide over told = shallow h.front (h.x ∷ (h.rest ++ d.deeper.more)) all told
      decide done told = shallow (h.front ++ h.x ∷ []) (h.rest ++ d.deeper.more) (all ∙ sym (append_assoc h.front (h.x ∷ []) (h.rest ++ d.deeper.more))) told

  -- the byte is the last one of the front
  not_earlier : (c : Sunk u) → length c.front < length d.front → ⊥
  not_earlier c h =
      let k = longer c.front (c.x ∷ c.rest) d.front (d.x ∷ []) (sym c.is) h in
      let f = d.front ++ d.goes_on.more in
      let x_is : k.x ≡ c.x = sym (head_of c.x k.x c.rest k.rest k.next) in
      let is : f ≡ c.front ++ c.x ∷ (k.mid ++ d.goes_on.more) = ap (λ z. z ++ d.goes_on.more) k.is ∙ append_assoc c.front (k.x ∷ k.mid) d.goes_on.more ∙ ap (λ x. c.front ++ x ∷ (k.mid ++ d.goes_on.more)) x_is in
      ended_deep _ _ (sym (text_read 127 f d.goes_on.before d.goes_on.v d.goes_on.after d.goes_on.json d.goes_on.within) ∙ ap (run 127 (length f) mode.Value false []) is ∙ sunk_reads u c (length f) (k.mid ++ d.goes_on.more))

  at_last : (c : Sunk u) → length d.front ≤ length c.front → (n : ℕ) (ys : List ℕ) → run 127 n mode.Value false [] (d.front ++ d.x ∷ ys) ≡ too_deep (n - suc (length ys))
  at_last c h n ys =
      let size : length (c.x ∷ c.rest) ≡ length (d.x ∷ []) = omega (arith, h, ap length c.is, length-append c.front (c.x ∷ c.rest), length-append d.front (d.x ∷ [])) in
      let f : c.front ≡ d.front = same_front c.front (c.x ∷ c.rest) d.front (d.x ∷ []) (sym c.is) size in
      let x : c.x ≡ d.x = head_of c.x d.x c.rest [] (same_back c.front (c.x ∷ c.rest) d.front (d.x ∷ []) (sym c.is) size) in
      sym (ap (λ z. run 127 n mode.Value false [] (z ++ c.x ∷ ys)) f ∙ ap (λ x. run 127 n mode.Value false [] (d.front ++ x ∷ ys)) x) ∙ sunk_reads u c n ys

  by_order : (c : Sunk u) → Order (length c.front) (length d.front) → (n : ℕ) (ys : List ℕ) → run 127 n mode.Value false [] (d.front ++ d.x ∷ ys) ≡ too_deep (n - suc (length ys))
  by_order c (below h) n ys = absurd (not_earlier c h)
  by_order c (above h) n ys = at_last c (omega (arith, h)) n ys
  by_order c (same h) n ys = at_last c (omega (arith, h)) n ys

  by_course : Course u → (n : ℕ) (ys : List ℕ) → run 127 n mode.Value false [] (d.front ++ d.x ∷ ys) ≡ too_deep (n - suc (length ys))
  by_course (read r) n ys = absurd (not_read r.m r.naming r.s r.reach)
  by_course (halted h) n ys = absurd (not_halted h h.verdict h.says)
  by_course (sunk c) n ys = by_order c (order (length c.front) (length d.front)) n ys

  deep_reads : (n : ℕ) (ys : List ℕ) → run 127 n mode.Value false [] (d.front ++ d.x ∷ ys) ≡ too_deep (n - suc (length ys))
  deep_reads n ys = by_course (course u) n ys

deep_is : (text : List ℕ) (p : ℕ) → IsDeepFault text p → whole text ≡ too_deep p
deep_is text p d =
    let place : length text - suc (length d.rest) ≡ p = omega (arith, d.at, ap length d.is, length-append d.front (d.x ∷ d.rest)) in
    whole_reads text ∙ ap (λ z. and_then_the_end text (run 127 (length text) mode.Value false [] z)) d.is ∙ ap (and_then_the_end text) (deep_reads text p d (length text) d.rest ∙ ap too_deep place)

-- ---- what goes on behind some bytes goes on behind each front of them

reached_goes : (u : List ℕ) (m : Mode) (naming : Bool) (s : Stack) → Reach u m naming s → Past m u → GoesOn 127 u
reached_goes u mode.Low2 naming s r p = inr (named_four u p)
reached_goes u mode.Low1 naming s r p = inr (named_five u p)
reached_goes u m naming s r p = inl (goes_on 127 u m naming s (λ n ys. r 127 n ys (omega arith)) tt)

module _ (u w : List ℕ) (h : HalfNamed (u ++ w)) where
  half_halted : (c : Halted u) (v : Verdict) → run 127 1 mode.Value false [] (u ++ w) ≡ decided v 1 (length (c.rest ++ w)) → ⊥
  half_halted c (stop_at b) told = absurd (omega (arith, stopped_same _ _ (sym (half_named_reads (u ++ w) h 1) ∙ told)))
  half_halted c over told = ended_stopped _ _ (sym told ∙ half_named_reads (u ++ w) h 1)
  half_halted c done told = ended_stopped _ _ (sym told ∙ half_named_reads (u ++ w) h 1)

  half_course : Course u → GoesOn 127 u
  half_course (read r) = reached_goes u r.m r.naming r.s r.reach r.before
  half_course (halted c) =
      let all : u ++ w ≡ c.front ++ c.x ∷ (c.rest ++ w) = ap (λ z. z ++ w) c.is ∙ append_assoc c.front (c.x ∷ c.rest) w in
      absurd (half_halted c c.verdict (ap (run 127 1 mode.Value false []) all ∙ c.reach 127 1 (c.x ∷ (c.rest ++ w)) (omega arith) ∙ c.says 127 1 (c.rest ++ w) (omega arith)))
  half_course (sunk c) =
      let all : u ++ w ≡ c.front ++ c.x ∷ (c.rest ++ w) = ap (λ z. z ++ w) c.is ∙ append_assoc c.front (c.x ∷ c.rest) w in
      absurd (stopped_deep _ _ (sym (half_named_reads (u ++ w) h 1) ∙ ap (run 127 1 mode.Value false []) all ∙ sunk_reads u c 1 (c.rest ++ w)))

front_goes : (u w : List ℕ) → GoesOn 127 (u ++ w) → GoesOn 127 u
front_goes u w (inl b) =
    inl (record {
      more = w ++ b.more;
      before = b.before;
      v = b.v;
      after = b.after;
      json = record { is = sym (append_assoc u w b.more) ∙ b.json.is; is_before = b.json.is_before; is_tree = b.json.is_tree; is_after = b.json.is_after };
      within = b.within;
    })
front_goes u w (inr h) = half_course u w h (course u)

-- ---- the first place where nothing goes on is one

module _ (text : List ℕ) (p : ℕ) (h : FirstDead text p) where
  dead_at : (x : ℕ) (rest : List ℕ) → h.rest ≡ x ∷ rest → (levels : ℕ) → GoesOn levels (h.front ++ x ∷ []) → ⊥
  dead_at x rest e = let P : List ℕ → Type 0 = λ z. Dead h.front z in subst P e h.dead

  no_further : (v s : List ℕ) → text ≡ v ++ s → GoesOn 127 v → length h.front < length v → ⊥
  no_further v s is g lt =
      let k = longer h.front h.rest v s (sym h.is ∙ is) lt in
      let P : List ℕ → Type 0 = λ z. GoesOn 127 z in
      dead_at k.x k.rest k.next 127 (front_goes (h.front ++ k.x ∷ []) k.mid (subst P (k.is ∙ sym (append_assoc h.front (k.x ∷ []) k.mid)) g))

  -- no text has such a place
  text_by : (rest : List ℕ) → text ≡ h.front ++ rest → Dead h.front rest → (before : List ℕ) (v : Tree) (after : List ℕ) → IsText text before v after → ⊥
  text_by [] is dead before v after t =
      dead before v after (record { is = sym (nil h.front) ∙ sym is ∙ t.json.is; is_before = t.json.is_before; is_tree = t.json.is_tree; is_after = t.json.is_after })
  text_by (x ∷ rest) is dead before v after t =
      dead 127 (inl (record {
        more = rest;
        before = before;
        v = v;
        after = after;
        json = record { is = append_assoc h.front (x ∷ []) rest ∙ sym is ∙ t.json.is; is_before = t.json.is_before; is_tree = t.json.is_tree; is_after = t.json.is_after };
        within = t.levels;
      }))

  not_text : (before : List ℕ) (v : Tree) (after : List ℕ) → IsText text before v after → ⊥
  not_text before v after t = text_by h.rest h.is h.dead before v after t

  -- nor does a byte open level 128 in a text that has one
  module _ (q : ℕ) (d : IsDeepFault text q) where
    behind_deep : (mid : List ℕ) → h.front ≡ d.front ++ d.x ∷ mid → GoesOn 127 h.front → ⊥
    behind_deep mid is (inl b) =
        let f = h.front ++ b.more in
        ended_deep _ _ (sym (text_read 127 f b.before b.v b.after b.json b.within) ∙ ap (run 127 (length f) mode.Value false []) (ap (λ z. z ++ b.more) is ∙ append_assoc d.front (d.x ∷ mid) b.more)
        ∙ deep_reads text q d (length f) (mid ++ b.more))
    behind_deep mid is (inr t) = stopped_deep _ _ (sym (half_named_reads h.front t 1) ∙ ap (run 127 1 mode.Value false []) is ∙ deep_reads text q d 1 mid)

    deep_order : Order (length h.front) (length d.front) → ⊥
    deep_order (below lt) = no_further d.front (d.x ∷ d.rest) d.is (inl d.goes_on) lt
    deep_order (above lt) =
        let k = longer d.front (d.x ∷ d.rest) h.front h.rest (sym d.is ∙ h.is) lt in
        behind_deep k.mid (k.is ∙ ap (λ x. d.front ++ x ∷ k.mid) (sym (head_of d.x k.x d.rest k.rest k.next))) h.goes_on
    deep_order (same e) =
        let size : length h.rest ≡ length (d.x ∷ d.rest) = omega (arith, e, ap length h.is, ap length d.is, length-append h.front h.rest, length-append d.front (d.x ∷ d.rest)) in
        let f : h.front ≡ d.front = same_front h.front h.rest d.front (d.x ∷ d.rest) (sym h.is ∙ d.is) size in
        let P : List ℕ → Type 0 = λ z. Begins 128 (z ++ d.x ∷ []) in
        dead_at d.x d.rest (same_back h.front h.rest d.front (d.x ∷ d.rest) (sym h.is ∙ d.is) size) 128 (inl (subst P (sym f) d.deeper))

    not_deep : ⊥
    not_deep = deep_order (order (length h.front) (length d.front))

one_first : (text : List ℕ) (p q : ℕ) → FirstDead text p → FirstDead text q → p ≡ q
one_first text p q h g = by_order (order (length h.front) (length g.front))
  where
    by_order : Order (length h.front) (length g.front) → p ≡ q
    by_order (below lt) = absurd (no_further text p h g.front g.rest g.is g.goes_on lt)
    by_order (above lt) = absurd (no_further text q g h.front h.rest h.is h.goes_on lt)
    by_order (same e) = omega (arith, e, h.at, g.at)

first_is : (text : List ℕ) (p : ℕ) → FirstDead text p → ((q : ℕ) → LoneHalf text q → ⊥) → whole text ≡ stopped p
first_is text p h none = by_outcome (whole text) refl
  where
    by_fault : (q : ℕ) → IsSyntaxFault text q → stopped q ≡ stopped p
    by_fault q (inl l) = absurd (none q l)
    by_fault q (inr g) = ap stopped (one_first text q p g.0 h)

    by_outcome : (o : Outcome) → whole text ≡ o → whole text ≡ stopped p
    by_outcome (ended to) e = let w = whole_back text to e in absurd (not_text text p h w.before w.v w.after w.is)
    by_outcome (stopped q) e = e ∙ by_fault q (syntax_fault text q e)
    by_outcome (too_deep q) e = absurd (not_deep text p h q (level_fault text q e))

syntax_is : (text : List ℕ) (p : ℕ) → IsSyntaxFault text p → whole text ≡ stopped p
syntax_is text p (inl l) = whole_reads text ∙ ap (and_then_the_end text) (alone_stops text p l)
syntax_is text p (inr h) = first_is text p h.0 h.1

-- ---- each fault is told by the bytes

abbrev Told : List ℕ → JsonFault → Type 0
Told text e = ((e ≡ fault.NotUtf8) × (IsUtf8 text → ⊥)) ⊎ (IsUtf8 text × (as_result (whole text) ≡ Err e))

told : (text : List ℕ) (e : JsonFault) → Refuses text e → Told text e
told text fault.NotUtf8 h = inl (refl, h)
told text (fault.Syntax p) h = inr (h.0, ap as_result (syntax_is text p h.1))
told text (fault.Deep p) h = inr (h.0, ap as_result (deep_is text p h.1))
told text (fault.Repeated p q) h = absurd h
told text (fault.Many p) h = absurd h
told text fault.Memory h = absurd h

err_same : (text : List ℕ) (e f : JsonFault) → as_result (whole text) ≡ Err e → as_result (whole text) ≡ Err f → e ≡ f
err_same text e f g h = cc

pub refused_one_way : (text : List ℕ) → RefusedOneWay text
refused_one_way text e f g h = by_told (told text e g) (told text f h)
  where
    by_told : Told text e → Told text f → e ≡ f
    by_told (inl a) (inl b) = a.0 ∙ sym b.0
    by_told (inl a) (inr b) = absurd (a.1 b.0)
    by_told (inr a) (inl b) = absurd (b.1 a.0)
    by_told (inr a) (inr b) = err_same text e f a.1 b.1

pub not_both : (text : List ℕ) → NotBoth text
not_both text e before v after g utf8 t = by_told (told text e g)
  where
    by_told : Told text e → ⊥
    by_told (inl a) = a.1 utf8
    by_told (inr a) = not_refused text before v after e t a.1

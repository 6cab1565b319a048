-- One byte of a run, and the brackets in their array.
use Rattle.std.proofs.Common.{◌≡◌, ℕ, zero, suc, ◌+◌, ◌-◌, ◌<◌, ◌≤◌, ◌≢◌, Bool, true, false, List, [], ◌∷◌, length, get_or, drop, refl, ap, ◌∙◌, sym, arith, get_or-set_other, get_or-set_same}
use Rattle.std.proofs.Math.ListN.{set}
use Rattle.std.proofs.lemmas.List.{drop_more, drop_all, length-drop}
use Rattle.std.proofs.lemmas.Bool.Decides.{nat_tests}
use Rattle.json_spans.specs.Table.{step, back, is_number_end}
use Rattle.json_spans.specs.Machine.{Outcome, ended, stopped, too_deep, Stack, Onward, value_at, top_of, first_of, finish, close, react, at_end, run, stack_of}
use Rattle.json_spans.specs.declared.table.Mode.{Mode}
use Rattle.json_spans.specs.declared.table.Mode.TheVariants as mode
use Rattle.json_spans.specs.declared.table.Top.{Top}
use Rattle.json_spans.specs.declared.table.Action.{Action}
use Rattle.json_spans.specs.declared.table.Action.TheVariants as does

pub run_more : (d : List ℕ) (i : ℕ) (m : Mode) (naming : Bool) (s : Stack) → i < length d
    → run 127 (length d) m naming s (drop i d) ≡ react 127 i (i + 1) naming s (λ m naming s. run 127 (length d) m naming s (drop (i + 1) d)) (step m naming (top_of s) (get_or d i 0))
unfolding run
run_more d i m naming s h =
    let here : length d - suc (length (drop (i + 1) d)) ≡ i = omega (arith, length-drop (i + 1) d) in
    let behind : length d - length (drop (i + 1) d) ≡ i + 1 = omega (arith, length-drop (i + 1) d) in
    ap (run 127 (length d) m naming s) (drop_more d i 0 h)
    ∙ ap (λ p. react 127 p (length d - length (drop (i + 1) d)) naming s (λ m naming s. run 127 (length d) m naming s (drop (i + 1) d)) (step m naming (top_of s) (get_or d i 0))) here
    ∙ ap (λ q. react 127 i q naming s (λ m naming s. run 127 (length d) m naming s (drop (i + 1) d)) (step m naming (top_of s) (get_or d i 0))) behind

pub run_end : (d : List ℕ) (i : ℕ) (m : Mode) (naming : Bool) (s : Stack) → length d ≤ i → run 127 (length d) m naming s (drop i d) ≡ at_end (length d) m s
unfolding run
run_end d i m naming s h = ap (run 127 (length d) m naming s) (drop_all i d h)

pub value_at-drop : (d : List ℕ) (i : ℕ) → i ≤ length d → value_at i (drop i d) ≡ run 127 (length d) mode.Value false [] (drop i d)
value_at-drop d i h = let n : i + length (drop i d) ≡ length d = omega (arith, length-drop i d) in ap (λ n. run 127 n mode.Value false [] (drop i d)) n

pub stack_of-set : (brackets : List Bool) (d n : ℕ) (b : Bool) → n ≤ d → stack_of (set brackets d b) n ≡ stack_of brackets n
unfolding stack_of
stack_of-set brackets d zero b h = refl
stack_of-set brackets d (suc n) b h = let ne : n ≢ d = omega arith in rw (get_or-set_other, stack_of-set brackets d n b (omega arith))

pub length-stack_of : (brackets : List Bool) (n : ℕ) → length (stack_of brackets n) ≡ n
unfolding stack_of
length-stack_of brackets zero = refl
length-stack_of brackets (suc n) = ap suc (length-stack_of brackets n)

pub stack_of-suc : (brackets : List Bool) (n : ℕ) → stack_of brackets (n + 1) ≡ get_or brackets n false ∷ stack_of brackets n
unfolding stack_of
stack_of-suc brackets n = let e : n + 1 ≡ suc n = omega arith in rw e

pub stack_of-pushed : (brackets : List Bool) (n : ℕ) (b : Bool) → n < length brackets → stack_of (set brackets n b) (n + 1) ≡ b ∷ stack_of brackets n
stack_of-pushed brackets n b h = rw (stack_of-suc, stack_of-set brackets n n b (omega arith), get_or-set_same)

-- what stands behind the byte at i
abbrev pub onward : List ℕ → ℕ → Onward
onward d i = λ m naming s. run 127 (length d) m naming s (drop (i + 1) d)

pub turn : (d : List ℕ) (i : ℕ) (m : Mode) (naming : Bool) (s : Stack) (t : Top) (a : Action) (o : Outcome)
    → i < length d → t ≡ top_of s → a ≡ step m naming t (get_or d i 0) → run 127 (length d) m naming s (drop i d) ≡ o → react 127 i (i + 1) naming s (onward d i) a ≡ o
turn d i m naming s t a o h e f g = ap (react 127 i (i + 1) naming s (onward d i)) (f ∙ ap (λ t. step m naming t (get_or d i 0)) e) ∙ sym (run_more d i m naming s h) ∙ g

pub finish-some : (p : ℕ) (naming : Bool) (s : Stack) (k : Onward) → 0 < length s → finish p naming s k ≡ k mode.After naming s
finish-some p naming [] k h = absurd (omega arith)
finish-some p naming (b ∷ s) k h = refl

pub finish-none : (p : ℕ) (naming : Bool) (brackets : List Bool) (n : ℕ) (k : Onward) → n ≡ 0 → finish p naming (stack_of brackets n) k ≡ ended p
unfolding stack_of
finish-none p naming brackets n k e = rw e

pub finish-deep : (p : ℕ) (naming : Bool) (brackets : List Bool) (n : ℕ) (k : Onward) → n ≢ 0 → finish p naming (stack_of brackets n) k ≡ k mode.After naming (stack_of brackets n)
finish-deep p naming brackets n k ne = finish-some p naming (stack_of brackets n) k (omega (arith, length-stack_of brackets n))

pub close-none : (p q : ℕ) (naming : Bool) (brackets : List Bool) (n : ℕ) (k : Onward) → n ≡ 0 → close p q naming (stack_of brackets n) k ≡ stopped p
unfolding stack_of
close-none p q naming brackets n k e = rw e

pub close-some : (p q : ℕ) (naming : Bool) (brackets : List Bool) (n : ℕ) (k : Onward) → n ≢ 0 → close p q naming (stack_of brackets n) k ≡ finish q naming (stack_of brackets (n - 1)) k
unfolding stack_of
close-some p q naming brackets zero k ne = absurd (ne refl)
close-some p q naming brackets (suc n) k ne = let e : n ≡ suc n - 1 = omega arith in ap (λ n. finish q naming (stack_of brackets n) k) e

pub opened : (p q : ℕ) (naming : Bool) (brackets : List Bool) (n : ℕ) (b : Bool) (k : Onward) → n < 127 → n < length brackets
    → react 127 p q naming (stack_of brackets n) k (does.Open b) ≡ k (first_of b) naming (stack_of (set brackets n b) (n + 1))
opened p q naming brackets n b k h room = rw (stack_of-pushed brackets n b room, length-stack_of brackets n) (grind (arith, nat_tests))

pub not_opened : (p q : ℕ) (naming : Bool) (brackets : List Bool) (n : ℕ) (b : Bool) (k : Onward) → n ≡ 127
    → react 127 p q naming (stack_of brackets n) k (does.Open b) ≡ too_deep p
not_opened p q naming brackets n b k e = rw (length-stack_of brackets n, e)

pub ends-number : (p : ℕ) (m : Mode) (brackets : List Bool) (n : ℕ) → n ≡ 0 → is_number_end m ≡ true → at_end p m (stack_of brackets n) ≡ ended p
unfolding stack_of
ends-number p m brackets n e f = rw (e, f)

pub ends-other : (p : ℕ) (m : Mode) (brackets : List Bool) (n : ℕ) → n ≡ 0 → is_number_end m ≡ false → at_end p m (stack_of brackets n) ≡ stopped (p - back m)
unfolding stack_of
ends-other p m brackets n e f = rw (e, f)

ends_within : (p : ℕ) (m : Mode) (s : Stack) → 0 < length s → at_end p m s ≡ stopped (p - back m)
ends_within p m [] h = absurd (omega arith)
ends_within p m (b ∷ s) h = refl

pub ends-deep : (p : ℕ) (m : Mode) (brackets : List Bool) (n : ℕ) → n ≢ 0 → at_end p m (stack_of brackets n) ≡ stopped (p - back m)
ends-deep p m brackets n ne = ends_within p m (stack_of brackets n) (omega (arith, length-stack_of brackets n))

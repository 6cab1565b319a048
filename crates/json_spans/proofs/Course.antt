-- The course of reading: where each front of a text leads, and what stood before.
use Rattle.std.proofs.Common.{◌≡◌, ◌⊎◌, ℕ, suc, ◌-◌, ◌<◌, ◌≤◌, Bool, true, false, cond, ◌||◌, ◌==◌, nat_lt, List, [], ◌∷◌, ◌++◌, length, refl, ap, ◌∙◌, sym, arith, subst, inl, inr}
use Rattle.std.proofs.lemmas.List.{append_assoc}
use Rattle.std.proofs.lemmas.Bool.Decides.{nat_tests}
use Rattle.std.proofs.lemmas.Bool.{lt-ltb, eqb-true}
use Rattle.json_spans.specs.Bytes.{is_space, is_digit, is_hex, is_high, is_low, is_short, is_exponent}
use Rattle.json_spans.specs.Grammar.{is_d}
use Rattle.json_spans.specs.Table.{step, begins, after, go_if}
use Rattle.json_spans.specs.Machine.{Outcome, ended, stopped, Stack, top_of, first_of, finish, react, run}
use Rattle.json_spans.specs.declared.table.Mode.{Mode}
use Rattle.json_spans.specs.declared.table.Mode.TheVariants as mode
use Rattle.json_spans.specs.declared.table.Top.{Top}
use Rattle.json_spans.specs.declared.table.Top.TheVariants as top
use Rattle.json_spans.specs.declared.table.Action.{Action}
use Rattle.json_spans.specs.declared.table.Action.TheVariants as does
use Rattle.json_spans.proofs.Forward.{on, byte}
use Rattle.json_spans.proofs.Texts.{nil}

-- a front leads to this state, within 127 levels and within more
abbrev pub Reach : List ℕ → Mode → Bool → Stack → Type 0
Reach front m naming s = (limit n : ℕ) (ys : List ℕ) → 127 ≤ limit → run limit n mode.Value false [] (front ++ ys) ≡ run limit n m naming s ys

reach_more : (front : List ℕ) (x : ℕ) (m m2 : Mode) (naming naming2 : Bool) (s s2 : Stack) → Reach front m naming s
    → ((limit n : ℕ) (ys : List ℕ) → 127 ≤ limit → run limit n m naming s (x ∷ ys) ≡ run limit n m2 naming2 s2 ys) → Reach (front ++ x ∷ []) m2 naming2 s2
reach_more front x m m2 naming naming2 s s2 r one = λ limit n ys le. ap (run limit n mode.Value false []) (append_assoc front (x ∷ []) ys) ∙ r limit n (x ∷ ys) le ∙ one limit n ys le

-- ---- what stood before, within an escape

-- the front ends with the part of an escape, which begins where a string's next character may
pub record Behind (front part : List ℕ) : Type 0 where
  pub f : List ℕ
  pub naming : Bool
  pub s : Stack
  pub is : front ≡ f ++ part
  pub reach : Reach f mode.Text naming s

behind_more : (front part : List ℕ) (x y : ℕ) → x ≡ y → Behind front part → Behind (front ++ x ∷ []) (part ++ y ∷ [])
behind_more front part x y e b = record { f = b.f; naming = b.naming; s = b.s; is = ap (λ z. z ++ x ∷ []) b.is ∙ append_assoc b.f part (x ∷ []) ∙ ap (λ y. b.f ++ (part ++ y ∷ [])) e; reach = b.reach }

pub record First (front : List ℕ) : Type 0 where
  pub a : ℕ
  pub is_first : is_d a ≡ true
  pub behind : Behind front (92 ∷ 117 ∷ a ∷ [])

pub record Second (test : ℕ → Bool) (front : List ℕ) : Type 0 where
  pub a : ℕ
  pub b : ℕ
  pub is_first : is_d a ≡ true
  pub is_second : test b ≡ true
  pub behind : Behind front (92 ∷ 117 ∷ a ∷ b ∷ [])

pub record Third (test : ℕ → Bool) (front : List ℕ) : Type 0 where
  pub a : ℕ
  pub b : ℕ
  pub c : ℕ
  pub is_first : is_d a ≡ true
  pub is_second : test b ≡ true
  pub is_third : is_hex c ≡ true
  pub behind : Behind front (92 ∷ 117 ∷ a ∷ b ∷ c ∷ [])

-- a whole first half, and part of what is to be the second
pub record Half (front part : List ℕ) : Type 0 where
  pub a : ℕ
  pub b : ℕ
  pub c : ℕ
  pub d : ℕ
  pub is_first : is_d a ≡ true
  pub is_second : is_high b ≡ true
  pub is_third : is_hex c ≡ true
  pub is_fourth : is_hex d ≡ true
  pub behind : Behind front (92 ∷ 117 ∷ a ∷ b ∷ c ∷ d ∷ part)

half_more : (front part : List ℕ) (x y : ℕ) → x ≡ y → Half front part → Half (front ++ x ∷ []) (part ++ y ∷ [])
half_more front part x y e h = record { a = h.a; b = h.b; c = h.c; d = h.d; is_first = h.is_first; is_second = h.is_second; is_third = h.is_third; is_fourth = h.is_fourth; behind = behind_more front _ x y e h.behind }

abbrev pub Past : Mode → List ℕ → Type 0
Past mode.Escape front = Behind front (92 ∷ [])
Past mode.Hex4 front = Behind front (92 ∷ 117 ∷ [])
Past mode.HexD front = First front
Past mode.Low2 front = Second is_low front
Past mode.Low1 front = Third is_low front
Past mode.High2 front = Second is_high front
Past mode.High1 front = Third is_high front
Past mode.Pair6 front = Half front []
Past mode.Pair5 front = Half front (92 ∷ [])
Past mode.Pair4 front = Half front (92 ∷ 117 ∷ [])
Past mode.Pair3 front = (e : ℕ) × (is_d e ≡ true) × Half front (92 ∷ 117 ∷ e ∷ [])
Past mode.Pair2 front = (e : ℕ) × (f : ℕ) × (is_d e ≡ true) × (is_low f ≡ true) × Half front (92 ∷ 117 ∷ e ∷ f ∷ [])
Past mode.Pair1 front = (e : ℕ) × (f : ℕ) × (g : ℕ) × (is_d e ≡ true) × (is_low f ≡ true) × (is_hex g ≡ true) × Half front (92 ∷ 117 ∷ e ∷ f ∷ g ∷ [])
Past m front = Unit {0}

abbrev pub PastOf : Action → List ℕ → Type 0
PastOf (does.Go m) front = Past m front
PastOf a front = Unit {0}

-- a refusal at the very byte
abbrev pub StopsHere : Action → Type 0
StopsHere (does.Stop b) = b ≡ 0
StopsHere a = Unit {0}

-- what a byte does in a mode that refuses at the very byte
pub record Fine (front : List ℕ) (a : Action) : Type 0 where
  pub past : PastOf a front
  pub here : StopsHere a

good : (front : List ℕ) (a : Action) → PastOf a front → StopsHere a → Fine front a
good front a p h = record { past = p; here = h }

either : (front : List ℕ) (t : Bool) (a b : Action) → (t ≡ true → Fine front a) → (t ≡ false → Fine front b) → Fine front (cond t a b)
either front true a b p q = p refl
either front false a b p q = q refl

module _ (f : List ℕ) where
  stop : Fine f (does.Stop 0)
  stop = good f (does.Stop 0) tt refl

  go : (m : Mode) → Past m f → Fine f (does.Go m)
  go m p = good f (does.Go m) p tt

  other : (a : Action) → PastOf a f → StopsHere a → Fine f a
  other a p h = good f a p h

  fine_begins : (stay : Mode) (x : ℕ) → Past stay f → Fine f (begins stay x)
  fine_begins stay x p =
      either f (is_space x) _ _ (λ _. go stay p) (λ _. either f (x == 34) _ _ (λ _. other does.Text tt tt) (λ _. either f (x == 123) _ _ (λ _. other (does.Open true) tt tt) (λ _.
      either f (x == 91) _ _ (λ _. other (does.Open false) tt tt) (λ _. either f (x == 45) _ _ (λ _. go mode.Minus tt) (λ _. either f (x == 48) _ _ (λ _. go mode.Zero tt) (λ _.
      either f (is_digit x) _ _ (λ _. go mode.Whole tt) (λ _. either f (x == 116) _ _ (λ _. go mode.True3 tt) (λ _. either f (x == 102) _ _ (λ _. go mode.False4 tt) (λ _.
      either f (x == 110) _ _ (λ _. go mode.Null3 tt) (λ _. stop))))))))))

  fine_after : (t : Top) (x : ℕ) → Fine f (after t x)
  fine_after top.Outside x = other does.Over tt tt
  fine_after top.InList x = either f (is_space x) _ _ (λ _. go mode.After tt) (λ _. either f (x == 44) _ _ (λ _. go mode.Value tt) (λ _. either f (x == 93) _ _ (λ _. other does.Close tt tt) (λ _. stop)))
  fine_after top.InObject x = either f (is_space x) _ _ (λ _. go mode.After tt) (λ _. either f (x == 44) _ _ (λ _. go mode.Name tt) (λ _. either f (x == 125) _ _ (λ _. other does.Close tt tt) (λ _. stop)))

  fine_name : (stay : Mode) (x : ℕ) → Past stay f → Fine f (cond (is_space x) (does.Go stay) (cond (x == 34) does.Name (does.Stop 0)))
  fine_name stay x p = either f (is_space x) _ _ (λ _. go stay p) (λ _. either f (x == 34) _ _ (λ _. other does.Name tt tt) (λ _. stop))

  fine_if : (t : Bool) (m : Mode) → (t ≡ true → Past m f) → Fine f (go_if t m 0)
  fine_if t m p = either f t _ _ (λ e. go m (p e)) (λ _. stop)

  fine_done : (t : Bool) → Fine f (cond t does.Done (does.Stop 0))
  fine_done t = either f t _ _ (λ _. other does.Done tt tt) (λ _. stop)

-- the modes that refuse at an earlier byte, at the backslash of half of a pair alone
abbrev pub LooksBack : Mode → Bool
LooksBack mode.Low1 = true
LooksBack mode.Pair6 = true
LooksBack mode.Pair5 = true
LooksBack mode.Pair4 = true
LooksBack mode.Pair3 = true
LooksBack mode.Pair2 = true
LooksBack mode.Pair1 = true
LooksBack m = false

pub fine : (m : Mode) (naming : Bool) (s : Stack) (front : List ℕ) (x : ℕ) → LooksBack m ≡ false → Reach front m naming s → Past m front → Fine (front ++ x ∷ []) (step m naming (top_of s) x)
fine mode.Value naming s front x b r p = fine_begins _ mode.Value x tt
fine mode.ValueOrClose naming s front x b r p = either _ (x == 93) _ _ (λ _. other _ does.Close tt tt) (λ _. fine_begins _ mode.ValueOrClose x tt)
fine mode.NameOrClose naming s front x b r p = either _ (x == 125) _ _ (λ _. other _ does.Close tt tt) (λ _. fine_name _ mode.NameOrClose x tt)
fine mode.Name naming s front x b r p = fine_name _ mode.Name x tt
fine mode.Colon naming s front x b r p = either _ (is_space x) _ _ (λ _. go _ mode.Colon tt) (λ _. either _ (x == 58) _ _ (λ _. other _ does.Begin tt tt) (λ _. stop _))
fine mode.After naming s front x b r p = fine_after _ (top_of s) x
fine mode.Text true s front x b r p =
    either _ (x == 34) _ _ (λ _. go _ mode.Colon tt) (λ _. either _ (x == 92) _ _ (λ e. go _ mode.Escape (record { f = front; naming = true; s = s; is = ap (λ x. front ++ x ∷ []) (eqb-true x 92 e); reach = r })) (λ _. either _ (nat_lt x 32) _ _ (λ _. stop _) (λ _. go _ mode.Text tt)))
fine mode.Text false s front x b r p =
    either _ (x == 34) _ _ (λ _. other _ does.Done tt tt) (λ _. either _ (x == 92) _ _ (λ e. go _ mode.Escape (record { f = front; naming = false; s = s; is = ap (λ x. front ++ x ∷ []) (eqb-true x 92 e); reach = r })) (λ _. either _ (nat_lt x 32) _ _ (λ _. stop _) (λ _. go _ mode.Text tt)))
fine mode.Escape naming s front x b r p = either _ (is_short x) _ _ (λ _. go _ mode.Text tt) (λ _. either _ (x == 117) _ _ (λ e. go _ mode.Hex4 (behind_more front (92 ∷ []) x 117 (eqb-true x 117 e) p)) (λ _. stop _))
fine mode.Hex4 naming s front x b r p = either _ (is_d x) _ _ (λ e. go _ mode.HexD (record { a = x; is_first = e; behind = behind_more front (92 ∷ 117 ∷ []) x x refl p })) (λ _. fine_if _ (is_hex x) mode.Hex3 (λ _. tt))
fine mode.HexD naming s front x b r p =
    either _ (is_high x) _ _ (λ e. go _ mode.High2 (record { a = p.a; b = x; is_first = p.is_first; is_second = e; behind = behind_more front (92 ∷ 117 ∷ p.a ∷ []) x x refl p.behind }))
    (λ _. either _ (is_low x) _ _ (λ e. go _ mode.Low2 (record { a = p.a; b = x; is_first = p.is_first; is_second = e; behind = behind_more front (92 ∷ 117 ∷ p.a ∷ []) x x refl p.behind })) (λ _. fine_if _ (is_hex x) mode.Hex2 (λ _. tt)))
fine mode.Hex3 naming s front x b r p = fine_if _ (is_hex x) mode.Hex2 (λ _. tt)
fine mode.Hex2 naming s front x b r p = fine_if _ (is_hex x) mode.Hex1 (λ _. tt)
fine mode.Hex1 naming s front x b r p = fine_if _ (is_hex x) mode.Text (λ _. tt)
fine mode.Low2 naming s front x b r p =
    fine_if _ (is_hex x) mode.Low1 (λ e. record { a = p.a; b = p.b; c = x; is_first = p.is_first; is_second = p.is_second; is_third = e; behind = behind_more front (92 ∷ 117 ∷ p.a ∷ p.b ∷ []) x x refl p.behind })
fine mode.Low1 naming s front x b r p = absurd (cc)
fine mode.High2 naming s front x b r p =
    fine_if _ (is_hex x) mode.High1 (λ e. record { a = p.a; b = p.b; c = x; is_first = p.is_first; is_second = p.is_second; is_third = e; behind = behind_more front (92 ∷ 117 ∷ p.a ∷ p.b ∷ []) x x refl p.behind })
fine mode.High1 naming s front x b r p =
    fine_if _ (is_hex x) mode.Pair6 (λ e. record { a = p.a; b = p.b; c = p.c; d = x; is_first = p.is_first; is_second = p.is_second; is_third = p.is_third; is_fourth = e; behind = behind_more front (92 ∷ 117 ∷ p.a ∷ p.b ∷ p.c ∷ []) x x refl p.behind })
fine mode.Pair6 naming s front x b r p = absurd (cc)
fine mode.Pair5 naming s front x b r p = absurd (cc)
fine mode.Pair4 naming s front x b r p = absurd (cc)
fine mode.Pair3 naming s front x b r p = absurd (cc)
fine mode.Pair2 naming s front x b r p = absurd (cc)
fine mode.Pair1 naming s front x b r p = absurd (cc)
fine mode.Minus naming s front x b r p = either _ (x == 48) _ _ (λ _. go _ mode.Zero tt) (λ _. fine_if _ (is_digit x) mode.Whole (λ _. tt))
fine mode.Zero naming s front x b r p = either _ (x == 46) _ _ (λ _. go _ mode.Point tt) (λ _. either _ (is_exponent x) _ _ (λ _. go _ mode.Exponent tt) (λ _. fine_after _ (top_of s) x))
fine mode.Whole naming s front x b r p =
    either _ (is_digit x) _ _ (λ _. go _ mode.Whole tt) (λ _. either _ (x == 46) _ _ (λ _. go _ mode.Point tt) (λ _. either _ (is_exponent x) _ _ (λ _. go _ mode.Exponent tt) (λ _. fine_after _ (top_of s) x)))
fine mode.Point naming s front x b r p = fine_if _ (is_digit x) mode.Fraction (λ _. tt)
fine mode.Fraction naming s front x b r p = either _ (is_digit x) _ _ (λ _. go _ mode.Fraction tt) (λ _. either _ (is_exponent x) _ _ (λ _. go _ mode.Exponent tt) (λ _. fine_after _ (top_of s) x))
fine mode.Exponent naming s front x b r p = either _ ((x == 43) || (x == 45)) _ _ (λ _. go _ mode.ExponentSign tt) (λ _. fine_if _ (is_digit x) mode.ExponentDigits (λ _. tt))
fine mode.ExponentSign naming s front x b r p = fine_if _ (is_digit x) mode.ExponentDigits (λ _. tt)
fine mode.ExponentDigits naming s front x b r p = either _ (is_digit x) _ _ (λ _. go _ mode.ExponentDigits tt) (λ _. fine_after _ (top_of s) x)
fine mode.True3 naming s front x b r p = fine_if _ (x == 114) mode.True2 (λ _. tt)
fine mode.True2 naming s front x b r p = fine_if _ (x == 117) mode.True1 (λ _. tt)
fine mode.True1 naming s front x b r p = fine_done _ (x == 101)
fine mode.False4 naming s front x b r p = fine_if _ (x == 97) mode.False3 (λ _. tt)
fine mode.False3 naming s front x b r p = fine_if _ (x == 108) mode.False2 (λ _. tt)
fine mode.False2 naming s front x b r p = fine_if _ (x == 115) mode.False1 (λ _. tt)
fine mode.False1 naming s front x b r p = fine_done _ (x == 101)
fine mode.Null3 naming s front x b r p = fine_if _ (x == 117) mode.Null2 (λ _. tt)
fine mode.Null2 naming s front x b r p = fine_if _ (x == 108) mode.Null1 (λ _. tt)
fine mode.Null1 naming s front x b r p = fine_done _ (x == 108)

past_if : (f : List ℕ) (t : Bool) (m : Mode) (k : ℕ) → (t ≡ true → Past m f) → PastOf (go_if t m k) f
past_if f true m k p = p refl
past_if f false m k p = tt

pub past : (m : Mode) (naming : Bool) (s : Stack) (front : List ℕ) (x : ℕ) → Reach front m naming s → Past m front → PastOf (step m naming (top_of s) x) (front ++ x ∷ [])
past mode.Low1 naming s front x r p = tt
past mode.Pair6 naming s front x r p = past_if _ (x == 92) mode.Pair5 6 (λ e. half_more front [] x 92 (eqb-true x 92 e) p)
past mode.Pair5 naming s front x r p = past_if _ (x == 117) mode.Pair4 7 (λ e. half_more front (92 ∷ []) x 117 (eqb-true x 117 e) p)
past mode.Pair4 naming s front x r p = past_if _ (is_d x) mode.Pair3 8 (λ e. (x, e, half_more front (92 ∷ 117 ∷ []) x x refl p))
past mode.Pair3 naming s front x r p = past_if _ (is_low x) mode.Pair2 9 (λ e. (p.0, x, p.1, e, half_more front (92 ∷ 117 ∷ p.0 ∷ []) x x refl p.2))
past mode.Pair2 naming s front x r p = past_if _ (is_hex x) mode.Pair1 10 (λ e. (p.0, p.1, x, p.2, p.3, e, half_more front (92 ∷ 117 ∷ p.0 ∷ p.1 ∷ []) x x refl p.4))
past mode.Pair1 naming s front x r p = past_if _ (is_hex x) mode.Text 11 (λ _. tt)
past m naming s front x r p = (fine m naming s front x refl r p).past

-- ---- the course

pub data Verdict : Type 0 where
  stop_at : ℕ → Verdict
  over : Verdict
  done : Verdict

-- what a byte decides that has so many bytes behind it, in a text of n
abbrev pub decided : Verdict → ℕ → ℕ → Outcome
decided (stop_at b) n k = stopped (n - suc k - b)
decided over n k = ended (n - suc k)
decided done n k = ended (n - k)

abbrev pub Why : Verdict → Action → Type 0
Why (stop_at b) a = (a ≡ does.Stop b) ⊎ ((a ≡ does.Close) × (b ≡ 0))
Why over a = Unit {0}
Why done a = Unit {0}

-- the whole text was read, and no value is over
pub record Read (text : List ℕ) : Type 0 where
  pub m : Mode
  pub naming : Bool
  pub s : Stack
  pub reach : Reach text m naming s
  pub before : Past m text

-- the byte x decides, whatever stands behind it
pub record Halted (text : List ℕ) : Type 0 where
  pub front : List ℕ
  pub x : ℕ
  pub rest : List ℕ
  pub is : text ≡ front ++ x ∷ rest
  pub m : Mode
  pub naming : Bool
  pub s : Stack
  pub reach : Reach front m naming s
  pub before : Past m front
  pub verdict : Verdict
  pub says : (limit n : ℕ) (ys : List ℕ) → 127 ≤ limit → run limit n m naming s (x ∷ ys) ≡ decided verdict n (length ys)
  pub why : Why verdict (step m naming (top_of s) x)

-- the byte x opens level 128
pub record Sunk (text : List ℕ) : Type 0 where
  pub front : List ℕ
  pub x : ℕ
  pub rest : List ℕ
  pub is : text ≡ front ++ x ∷ rest
  pub m : Mode
  pub naming : Bool
  pub s : Stack
  pub reach : Reach front m naming s
  pub b : Bool
  pub opens : step m naming (top_of s) x ≡ does.Open b
  pub size : length s ≡ 127

pub data Course (text : List ℕ) : Type 0 where
  read : Read text → Course text
  halted : Halted text → Course text
  sunk : Sunk text → Course text

module _ (text front : List ℕ) (x : ℕ) (xs : List ℕ) (is : text ≡ front ++ x ∷ xs)
    (again : (m : Mode) (naming : Bool) (s : Stack) → Reach (front ++ x ∷ []) m naming s → Past m (front ++ x ∷ []) → length s ≤ 127 → Course text) where
  halt : (m : Mode) (naming : Bool) (s : Stack) → Reach front m naming s → Past m front → (v : Verdict)
      → ((limit n : ℕ) (ys : List ℕ) → 127 ≤ limit → run limit n m naming s (x ∷ ys) ≡ decided v n (length ys)) → Why v (step m naming (top_of s) x) → Course text
  halt m naming s r p v says why = halted (record { front = front; x = x; rest = xs; is = is; m = m; naming = naming; s = s; reach = r; before = p; verdict = v; says = says; why = why })

  at_finish : (m : Mode) (naming : Bool) (s : Stack) → Reach front m naming s → Past m front → (t : Stack) → length t ≤ 127
      → ((limit n : ℕ) (ys : List ℕ) → 127 ≤ limit → run limit n m naming s (x ∷ ys) ≡ finish (n - length ys) naming t (on limit n ys)) → Course text
  at_finish m naming s r p [] le one = halt m naming s r p done one tt
  at_finish m naming s r p (b ∷ t) le one = again mode.After naming (b ∷ t) (reach_more front x m mode.After naming naming s (b ∷ t) r one) tt le

  at_close : (m : Mode) (naming : Bool) (s : Stack) → Reach front m naming s → Past m front → length s ≤ 127 → step m naming (top_of s) x ≡ does.Close → Course text
  at_close m naming [] r p le e = halt m naming [] r p (stop_at 0) (λ limit n ys big. let same : n - suc (length ys) ≡ n - suc (length ys) - 0 = omega arith in byte limit n m naming [] x ys does.Close e ∙ ap stopped same) (inr (e, refl))
  at_close m naming (b ∷ s) r p le e = at_finish m naming (b ∷ s) r p s (omega (arith, le)) (λ limit n ys big. byte limit n m naming (b ∷ s) x ys does.Close e)

  at_open : (m : Mode) (naming : Bool) (s : Stack) → Reach front m naming s → length s ≤ 127 → (b t : Bool) → step m naming (top_of s) x ≡ does.Open b → nat_lt (length s) 127 ≡ t → Course text
  at_open m naming s r le b true e f =
      let small : length s < 127 = less (length s) f in
      again (first_of b) naming (b ∷ s) (reach_more front x m (first_of b) naming naming s (b ∷ s) r (λ limit n ys big. byte limit n m naming s x ys (does.Open b) e ∙ within limit n ys (omega (arith, small, big)))) (none b) (omega (arith, small))
    where
      less : (l : ℕ) → nat_lt l 127 ≡ true → l < 127
      less l f = grind (arith, nat_tests)

      within : (limit n : ℕ) (ys : List ℕ) → length s < limit → react limit (n - suc (length ys)) (n - length ys) naming s (on limit n ys) (does.Open b) ≡ run limit n (first_of b) naming (b ∷ s) ys
      within limit n ys h = rw (lt-ltb (length s) limit h)

      none : (b : Bool) → Past (first_of b) (front ++ x ∷ [])
      none true = tt
      none false = tt
  at_open m naming s r le b false e f = sunk (record { front = front; x = x; rest = xs; is = is; m = m; naming = naming; s = s; reach = r; b = b; opens = e; size = full (length s) le f })
    where
      full : (l : ℕ) → l ≤ 127 → nat_lt l 127 ≡ false → l ≡ 127
      full l h f = grind (arith, nat_tests)

  at_action : (m : Mode) (naming : Bool) (s : Stack) → Reach front m naming s → Past m front → length s ≤ 127 → (a : Action) → step m naming (top_of s) x ≡ a → PastOf a (front ++ x ∷ []) → Course text
  at_action m naming s r p le (does.Go m2) e q = again m2 naming s (reach_more front x m m2 naming naming s s r (λ limit n ys big. byte limit n m naming s x ys (does.Go m2) e)) q le
  at_action m naming s r p le does.Begin e q = again mode.Value false s (reach_more front x m mode.Value naming false s s r (λ limit n ys big. byte limit n m naming s x ys does.Begin e)) tt le
  at_action m naming s r p le does.Name e q = again mode.Text true s (reach_more front x m mode.Text naming true s s r (λ limit n ys big. byte limit n m naming s x ys does.Name e)) tt le
  at_action m naming s r p le does.Text e q = again mode.Text false s (reach_more front x m mode.Text naming false s s r (λ limit n ys big. byte limit n m naming s x ys does.Text e)) tt le
  at_action m naming s r p le (does.Open b) e q = at_open m naming s r le b _ e refl
  at_action m naming s r p le does.Done e q = at_finish m naming s r p s le (λ limit n ys big. byte limit n m naming s x ys does.Done e)
  at_action m naming s r p le does.Close e q = at_close m naming s r p le e
  at_action m naming s r p le does.Over e q = halt m naming s r p over (λ limit n ys big. byte limit n m naming s x ys does.Over e) tt
  at_action m naming s r p le (does.Stop b) e q = halt m naming s r p (stop_at b) (λ limit n ys big. byte limit n m naming s x ys (does.Stop b) e) (inl e)

course_from : (text xs front : List ℕ) (m : Mode) (naming : Bool) (s : Stack) → text ≡ front ++ xs → Reach front m naming s → Past m front → length s ≤ 127 → Course text
course_from text [] front m naming s is r p le =
    let e : front ≡ text = sym (is ∙ nil front) in
    let R : List ℕ → Type 0 = λ f. Reach f m naming s in
    let P : List ℕ → Type 0 = λ f. Past m f in
    read (record { m = m; naming = naming; s = s; reach = subst R e r; before = subst P e p })
course_from text (x ∷ xs) front m naming s is r p le =
    at_action text front x xs is (λ m naming s r p le. course_from text xs (front ++ x ∷ []) m naming s (is ∙ sym (append_assoc front (x ∷ []) xs)) r p le) m naming s r p le _ refl (past m naming s front x r p)

pub course : (text : List ℕ) → Course text
course text = course_from text text [] mode.Value false [] refl (λ limit n ys big. refl) tt (omega arith)

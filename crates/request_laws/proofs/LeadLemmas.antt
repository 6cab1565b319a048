-- The leads stand for all kinds.
use Rattle.std.proofs.Common.{◌≡◌, ℕ, ◌+◌, ◌≤◌, Bool, true, false, cond, not, ◌&&◌, ◌||◌, List, [], ◌∷◌, length, filter, refl, ap, ◌∙◌, subst, arith}
use Rattle.std.specs.Prelude.{nat_eq}
use Rattle.std.specs.List.{list_any, list_all}
use Rattle.std.specs.Cmp.{IsEquivalence}
use Rattle.grid_types.specs.Lists.{total, has}
use Rattle.grid_types.specs.Requests.{choices_of, waiting_requests}
use Rattle.grid_types.specs.HistoryLaws.{Known, laws}
use Rattle.request_laws.specs.Kinds.{is_alike, firsts, kinds}
use Rattle.request_laws.specs.Leads.{are_apart, LeadsAreFew}
use Rattle.request_laws.proofs.KindLemmas.{kinds-divide, alike-choices, waiting-listed}

-- weights without those of a kind
abbrev without : (ℕ → ℕ → Bool) → ℕ → (ℕ → ℕ) → ℕ → ℕ
without E x g y = cond (E x y) 0 (g y)

without-fair : (E : ℕ → ℕ → Bool) → IsEquivalence E → (x : ℕ) (g : ℕ → ℕ) → ((y z : ℕ) → E y z ≡ true → g y ≡ g z) → (y z : ℕ) → E y z ≡ true → without E x g y ≡ without E x g z
without-fair E eq x g fair y z e =
    let same : E x y ≡ E x z = eq.symm x y ∙ eq.congr y z x e ∙ eq.symm z x in
    rw (same, fair y z e) refl

less : (E : ℕ → ℕ → Bool) (x : ℕ) (g : ℕ → ℕ) (ys : List ℕ) → total (without E x g) ys ≤ total g ys
less E x g [] = omega arith
less E x g (y ∷ ys) = by_kind (E x y) (less E x g ys)
  where
    by_kind : (v : Bool) → total (without E x g) ys ≤ total g ys → cond v 0 (g y) + total (without E x g) ys ≤ g y + total g ys
    by_kind true rest = (let r = rest in omega arith)
    by_kind false rest = (let r = rest in omega arith)

-- where none is of the kind
unlike : (E : ℕ → ℕ → Bool) (x : ℕ) (g : ℕ → ℕ) (ys : List ℕ) → list_all (λ q. not (E x q)) ys ≡ true → total g ys ≡ total (without E x g) ys
unlike E x g [] h = refl
unlike E x g (y ∷ ys) h = by_kind (E x y) h (unlike E x g ys)
  where
    by_kind : (v : Bool) → (not v && list_all (λ q. not (E x q)) ys) ≡ true → (list_all (λ q. not (E x q)) ys ≡ true → total g ys ≡ total (without E x g) ys) → g y + total g ys ≡ cond v 0 (g y) + total (without E x g) ys
    by_kind true h rest = absurd (cc)
    by_kind false h rest = ap (λ n. g y + n) (rest h)

-- where one is of the kind
one-part : (E : ℕ → ℕ → Bool) (x : ℕ) (g : ℕ → ℕ) (ys : List ℕ) → ((y z : ℕ) → E y z ≡ true → g y ≡ g z) → list_any (E x) ys ≡ true → g x + total (without E x g) ys ≤ total g ys
one-part E x g [] fair h = absurd (cc)
one-part E x g (y ∷ ys) fair h = by_kind (E x y) refl h (one-part E x g ys fair)
  where
    by_kind : (v : Bool) → E x y ≡ v → (v || list_any (E x) ys) ≡ true → (list_any (E x) ys ≡ true → g x + total (without E x g) ys ≤ total g ys) → g x + (cond v 0 (g y) + total (without E x g) ys) ≤ g y + total g ys
    by_kind true e h rest = (let same : g x ≡ g y = fair x y e in let small = less E x g ys in omega arith)
    by_kind false e h rest = (let r = rest h in omega arith)

has-here : (x : ℕ) (xs : List ℕ) → has x (x ∷ xs) ≡ true
has-here x xs = grind arith

has-later : (q x : ℕ) (xs : List ℕ) → has q xs ≡ true → has q (x ∷ xs) ≡ true
has-later q x xs h = grind arith

-- what is apart weighs no more than what covers it
few : Known → (E : ℕ → ℕ → Bool) → IsEquivalence E → (g : ℕ → ℕ) (ls fs : List ℕ) → ((y z : ℕ) → E y z ≡ true → g y ≡ g z) → are_apart E ls ≡ true →
    ((l : ℕ) → has l ls ≡ true → list_any (E l) fs ≡ true) → total g ls ≤ total g fs
few proved E eq g [] fs fair a m = omega arith
few proved E eq g (l ∷ ls) fs fair a m =
    let rest : total (without E l g) ls ≤ total (without E l g) fs = few proved E eq (without E l g) ls fs (without-fair E eq l g fair) ((laws proved).and_right _ _ a) (λ q h. m q (has-later q l ls h)) in
    let same : total g ls ≡ total (without E l g) ls = unlike E l g ls ((laws proved).and_left _ _ a) in
    let one : g l + total (without E l g) fs ≤ total g fs = one-part E l g fs fair (m l (has-here l ls)) in
    omega arith

-- of each kind a first is left
any-unlike : (E : ℕ → ℕ → Bool) → IsEquivalence E → (x r : ℕ) (fs : List ℕ) → E x r ≡ false → list_any (E r) fs ≡ true → list_any (E r) (filter (λ q. not (E x q)) fs) ≡ true
any-unlike E eq x r [] e h = h
any-unlike E eq x r (y ∷ ys) e h = by_kind (E x y) refl (E r y) refl h (any-unlike E eq x r ys e)
  where
    by_kind : (v : Bool) → E x y ≡ v → (w : Bool) → E r y ≡ w → (w || list_any (E r) ys) ≡ true → (list_any (E r) ys ≡ true → list_any (E r) (filter (λ q. not (E x q)) ys) ≡ true) →
        list_any (E r) (cond (not v) (y ∷ filter (λ q. not (E x q)) ys) (filter (λ q. not (E x q)) ys)) ≡ true
    by_kind true d true f h rest = (let same : E r x ≡ E y x = eq.congr r y x f in let turned : E y x ≡ E x y = eq.symm y x in let back : E x r ≡ E r x = eq.symm x r in absurd (cc))
    by_kind true d false f h rest = rest h
    by_kind false d true f h rest = rw f refl
    by_kind false d false f h rest = rw (f, rest h) refl

any-first : (E : ℕ → ℕ → Bool) → IsEquivalence E → (xs : List ℕ) (r : ℕ) → has r xs ≡ true → list_any (E r) (firsts E xs) ≡ true
any-first E eq [] r h = absurd (cc)
any-first E eq (x ∷ xs) r h = by_kind (E x r) refl (nat_eq r x) refl h (any-first E eq xs r)
  where
    by_kind : (v : Bool) → E x r ≡ v → (w : Bool) → nat_eq r x ≡ w → (w || has r xs) ≡ true → (has r xs ≡ true → list_any (E r) (firsts E xs) ≡ true) → (E r x || list_any (E r) (filter (λ q. not (E x q)) (firsts E xs))) ≡ true
    by_kind true d w e h rest = (let back : E r x ≡ true = eq.symm r x ∙ d in rw back refl)
    by_kind false d true e h rest = (let same : x ≡ r = grind arith in let own : E x r ≡ true = subst (λ (z : ℕ). E x z ≡ true) same (eq.refl x) in absurd (cc))
    by_kind false d false e h rest = (let there = any-unlike E eq x r (firsts E xs) d (rest h) in rw there (or-true (E r x)))
      where
        or-true : (b : Bool) → (b || true) ≡ true
        or-true true = refl
        or-true false = refl

pub leads-are-few : Known → LeadsAreFew
leads-are-few proved H ls w =
    few proved (is_alike H) (kinds-divide proved H) (λ r. length (choices_of H r)) ls (kinds H) (λ q r h. ap length (alike-choices proved H q r h)) w.apart
    (λ l h. any-first (is_alike H) (kinds-divide proved H) (waiting_requests H) l (waiting-listed proved H l (w.counted l h)))

-- How many elements of a list pass a test.
use Rattle.std.proofs.Common.{◌≡◌, ℕ, ◌+◌, ◌<◌, ◌≤◌, Bool, true, false, cond, List, [], ◌∷◌, ◌++◌, length, refl, sym, subst, ◌∙◌, arith}
use Rattle.std.specs.Prelude.{nat_eq}
use Rattle.std.specs.List.{list_any}
use Rattle.grid_types.specs.Lists.{how_many}

pub never : false ≡ true → ⊥
never z = cc

pub no_more : (p q : ℕ → Bool) (xs : List ℕ) → ((x : ℕ) → q x ≡ true → p x ≡ true) → how_many q xs ≤ how_many p xs
no_more p q [] sub = omega arith
no_more p q (x ∷ xs) sub = by_tests (no_more p q xs sub) (q x) (p x) refl refl
  where
    by_tests : how_many q xs ≤ how_many p xs → (t u : Bool) → q x ≡ t → p x ≡ u → cond t 1 0 + how_many q xs ≤ cond u 1 0 + how_many p xs
    by_tests rest true true e f = omega (arith, rest)
    by_tests rest false true e f = omega (arith, rest)
    by_tests rest false false e f = omega (arith, rest)
    by_tests rest true false e f = absurd (never (sym f ∙ sub x e))

-- one of them passes no more
pub fewer : (p q : ℕ → Bool) (xs : List ℕ) (n : ℕ) → ((x : ℕ) → q x ≡ true → p x ≡ true) → list_any (λ x. nat_eq x n) xs ≡ true → p n ≡ true → q n ≡ false →
    how_many q xs < how_many p xs
fewer p q [] n sub there passes fails = absurd (never there)
fewer p q (x ∷ xs) n sub there passes fails = by_first (nat_eq x n) refl (λ h. fewer p q xs n sub h passes fails) there
  where
    at_first : how_many q xs ≤ how_many p xs → (t u : Bool) → t ≡ false → u ≡ true → cond t 1 0 + how_many q xs < cond u 1 0 + how_many p xs
    at_first rest false true e f = omega (arith, rest)
    at_first rest true u e f = absurd (never (sym e))
    at_first rest false false e f = absurd (never f)

    behind : how_many q xs < how_many p xs → (t u : Bool) → q x ≡ t → p x ≡ u → cond t 1 0 + how_many q xs < cond u 1 0 + how_many p xs
    behind rest true true e f = omega (arith, rest)
    behind rest false true e f = omega (arith, rest)
    behind rest false false e f = omega (arith, rest)
    behind rest true false e f = absurd (never (sym f ∙ sub x e))

    by_first : (b : Bool) → nat_eq x n ≡ b → (list_any (λ y. nat_eq y n) xs ≡ true → how_many q xs < how_many p xs) → list_any (λ y. nat_eq y n) (x ∷ xs) ≡ true →
        how_many q (x ∷ xs) < how_many p (x ∷ xs)
    by_first true e again h =
        let same : x ≡ n = grind arith in
        at_first (no_more p q xs sub) (q x) (p x) (subst (λ (y : ℕ). q y ≡ false) (sym same) fails) (subst (λ (y : ℕ). p y ≡ true) (sym same) passes)
    by_first false e again h = behind (again (grind arith)) (q x) (p x) refl refl

pub at_most_all : (p : ℕ → Bool) (xs : List ℕ) → how_many p xs ≤ length xs
at_most_all p [] = omega arith
at_most_all p (x ∷ xs) = by_test (p x) (at_most_all p xs)
  where
    by_test : (t : Bool) → how_many p xs ≤ length xs → cond t 1 0 + how_many p xs ≤ length (x ∷ xs)
    by_test true rest = omega (arith, rest)
    by_test false rest = omega (arith, rest)

pub in_left : (n : ℕ) (xs ys : List ℕ) → list_any (λ x. nat_eq x n) xs ≡ true → list_any (λ x. nat_eq x n) (xs ++ ys) ≡ true
in_left n [] ys h = absurd (never h)
in_left n (x ∷ xs) ys h = by_first (nat_eq x n) refl (λ g. in_left n xs ys g) h
  where
    by_first : (b : Bool) → nat_eq x n ≡ b → (list_any (λ y. nat_eq y n) xs ≡ true → list_any (λ y. nat_eq y n) (xs ++ ys) ≡ true) → list_any (λ y. nat_eq y n) (x ∷ xs) ≡ true →
        list_any (λ y. nat_eq y n) ((x ∷ xs) ++ ys) ≡ true
    by_first true e again h = grind arith
    by_first false e again h = grind (arith, again (grind arith))

pub in_last : (n : ℕ) (xs : List ℕ) → list_any (λ x. nat_eq x n) (xs ++ n ∷ []) ≡ true
in_last n [] = grind arith
in_last n (x ∷ xs) = grind (arith, in_last n xs)

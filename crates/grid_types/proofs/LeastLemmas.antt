-- The least of a list depends on its members alone.
use Rattle.std.proofs.Common.{◌≡◌, ℕ, ◌≤◌, Bool, true, false, ◌&&◌, ◌||◌, List, [], ◌∷◌, ◌++◌, filter, min, fold, refl, sym, ap, subst, ◌∙◌, arith}
use Rattle.std.specs.Prelude.{Option, None, Some, nat_eq, nat_lt, is_some}
use Rattle.std.specs.List.{list_all, reduce}
use Rattle.grid_types.specs.Lists.{least, better, has}
use Rattle.grid_types.proofs.ListLemmas.{and_left, and_right}

fold-least : (xs : List ℕ) (a : ℕ) → Some (fold min a xs) ≡ better nat_lt a (least nat_lt xs)
fold-least [] a = refl
fold-least (y ∷ ys) a = fold-least ys (min a y) ∙ by_rest (least nat_lt ys)
  where
    by_rest : (o : Option ℕ) → better nat_lt (min a y) o ≡ better nat_lt a (better nat_lt y o)
    by_rest None = grind arith
    by_rest (Some z) = grind arith

pub reduce-least : (xs : List ℕ) → reduce min xs ≡ least nat_lt xs
reduce-least [] = refl
reduce-least (x ∷ xs) = fold-least xs x

least-has : (xs : List ℕ) (m : ℕ) → least nat_lt xs ≡ Some m → has m xs ≡ true
least-has [] m h = cc
least-has (x ∷ xs) m h = by_rest (least nat_lt xs) refl h (least-has xs)
  where
    by_rest : (o : Option ℕ) → least nat_lt xs ≡ o → better nat_lt x o ≡ Some m → ((m : ℕ) → least nat_lt xs ≡ Some m → has m xs ≡ true) → (nat_eq m x || has m xs) ≡ true
    by_rest None e h before = grind arith
    by_rest (Some y) e h before = let there : has y xs ≡ true = before y e in grind arith

some-least : (xs : List ℕ) (b : ℕ) → has b xs ≡ true → is_some (least nat_lt xs) ≡ true
some-least [] b h = cc
some-least (x ∷ xs) b h = by_rest (least nat_lt xs)
  where
    by_rest : (o : Option ℕ) → is_some (better nat_lt x o) ≡ true
    by_rest None = refl
    by_rest (Some y) = refl

pub least-below : (xs : List ℕ) (m b : ℕ) → least nat_lt xs ≡ Some m → has b xs ≡ true → m ≤ b
least-below [] m b h t = absurd (cc)
least-below (x ∷ xs) m b h t = by_rest (least nat_lt xs) refl h t (λ z e there. least-below xs z b e there)
  where
    by_rest : (o : Option ℕ) → least nat_lt xs ≡ o → better nat_lt x o ≡ Some m → (nat_eq b x || has b xs) ≡ true → ((z : ℕ) → least nat_lt xs ≡ Some z → has b xs ≡ true → z ≤ b) → m ≤ b
    by_rest None e h t before = elim (has b xs) as (λ v. has b xs ≡ v → m ≤ b) [
      | true ↦ λ d. let there : is_some (least nat_lt xs) ≡ true = some-least xs b d in absurd (grind arith)
      | false ↦ λ d. grind arith
    ] refl
    by_rest (Some y) e h t before = elim (has b xs) as (λ v. has b xs ≡ v → m ≤ b) [
      | true ↦ λ d. let low : y ≤ b = before y e d in grind arith
      | false ↦ λ d. grind arith
    ] refl

pub least-same : (xs ys : List ℕ) → ((b : ℕ) → has b xs ≡ has b ys) → reduce min xs ≡ least nat_lt ys
least-same xs ys same = reduce-least xs ∙ by_both (least nat_lt xs) refl (least nat_lt ys) refl
  where
    by_both : (o : Option ℕ) → least nat_lt xs ≡ o → (p : Option ℕ) → least nat_lt ys ≡ p → least nat_lt xs ≡ least nat_lt ys
    by_both None d None e = d ∙ sym e
    by_both (Some m) d None e = let there : is_some (least nat_lt ys) ≡ true = some-least ys m (sym (same m) ∙ least-has xs m d) in absurd (grind arith)
    by_both None d (Some n) e = let there : is_some (least nat_lt xs) ≡ true = some-least xs n (same n ∙ least-has ys n e) in absurd (grind arith)
    by_both (Some m) d (Some n) e =
        let low : m ≤ n = least-below xs m n d (same n ∙ least-has ys n e) in
        let high : n ≤ m = least-below ys n m e (sym (same m) ∙ least-has xs m d) in
        let one : m ≡ n = omega arith in
        d ∙ ap (λ z. Some z) one ∙ sym e

pub has-filter : (q : ℕ → Bool) (b : ℕ) (xs : List ℕ) → has b (filter q xs) ≡ (q b && has b xs)
has-filter q b [] = grind arith
has-filter q b (x ∷ xs) = elim (nat_eq b x) as (λ v. nat_eq b x ≡ v → has b (filter q (x ∷ xs)) ≡ (q b && (nat_eq b x || has b xs))) [
  | true ↦ λ e. let same : b ≡ x = grind arith in let test : q b ≡ q x = ap q same in grind (arith, has-filter q b xs)
  | false ↦ λ e. grind (arith, has-filter q b xs)
] refl

pub has-last : (b r : ℕ) (xs : List ℕ) → has b (xs ++ r ∷ []) ≡ (has b xs || nat_eq b r)
has-last b r [] = grind arith
has-last b r (x ∷ xs) = grind (arith, has-last b r xs)

pub all-at : (p : ℕ → Bool) (n : ℕ) (xs : List ℕ) → list_all p xs ≡ true → has n xs ≡ true → p n ≡ true
all-at p n [] h t = absurd (cc)
all-at p n (x ∷ xs) h t = by_number (nat_eq n x) refl t (all-at p n xs (and_right _ _ h))
  where
    by_number : (v : Bool) → nat_eq n x ≡ v → (v || has n xs) ≡ true → (has n xs ≡ true → p n ≡ true) → p n ≡ true
    by_number true e t rest = let same : x ≡ n = grind arith in subst (λ (z : ℕ). p z ≡ true) same (and_left _ _ h)
    by_number false e t rest = rest t

pub all-of : (p : ℕ → Bool) (xs : List ℕ) → ((n : ℕ) → has n xs ≡ true → p n ≡ true) → list_all p xs ≡ true
all-of p [] h = refl
all-of p (x ∷ xs) h = rw (h x (has-here x xs), all-of p xs (λ n t. h n (has-later n x xs t))) refl
  where
    has-here : (x : ℕ) (xs : List ℕ) → has x (x ∷ xs) ≡ true
    has-here x xs = grind arith

    has-later : (n x : ℕ) (xs : List ℕ) → has n xs ≡ true → has n (x ∷ xs) ≡ true
    has-later n x xs t = grind arith

-- Lists of which all members are alike.
use Rattle.std.proofs.Common.{◌≡◌, ℕ, suc, ◌≤◌, Bool, true, false, cond, not, ◌&&◌, ◌||◌, List, [], ◌∷◌, length, filter, refl, sym, ap, subst, arith}
use Rattle.std.specs.Prelude.{nat_eq}
use Rattle.std.specs.List.{list_all, list_any}
use Rattle.grid_types.specs.Lists.{total}
use Rattle.request_laws.specs.Kinds.{firsts}

-- the first and the second of two that hold
pub first_of : (a b : Bool) → (a && b) ≡ true → a ≡ true
first_of true b h = refl
first_of false b h = absurd (cc)

pub second_of : (a b : Bool) → (a && b) ≡ true → b ≡ true
second_of true b h = h
second_of false b h = absurd (cc)

both : (a b : Bool) → a ≡ true → b ≡ true → (a && b) ≡ true
both true true h i = refl
both true false h i = absurd (cc)
both false b h i = absurd (cc)

-- what is kept passes
pub all-pass : (p : ℕ → Bool) (xs : List ℕ) → list_all p (filter p xs) ≡ true
all-pass p [] = refl
all-pass p (x ∷ xs) = by_test (p x) refl (all-pass p xs)
  where
    by_test : (b : Bool) → p x ≡ b → list_all p (filter p xs) ≡ true → list_all p (cond b (x ∷ filter p xs) (filter p xs)) ≡ true
    by_test true e rest = both (p x) (list_all p (filter p xs)) e rest
    by_test false e rest = rest

all-kept : (ok p : ℕ → Bool) (xs : List ℕ) → list_all ok xs ≡ true → list_all ok (filter p xs) ≡ true
all-kept ok p [] h = refl
all-kept ok p (x ∷ xs) h = by_test (p x) (all-kept ok p xs (second_of (ok x) (list_all ok xs) h))
  where
    by_test : (b : Bool) → list_all ok (filter p xs) ≡ true → list_all ok (cond b (x ∷ filter p xs) (filter p xs)) ≡ true
    by_test true rest = both (ok x) (list_all ok (filter p xs)) (first_of (ok x) (list_all ok xs) h) rest
    by_test false rest = rest

-- nothing is kept of what all fails
pub none-kept : (ok p : ℕ → Bool) (xs : List ℕ) → ((x : ℕ) → ok x ≡ true → p x ≡ false) → list_all ok xs ≡ true → filter p xs ≡ []
none-kept ok p [] fails h = refl
none-kept ok p (x ∷ xs) fails h = by_test (p x) (fails x (first_of (ok x) (list_all ok xs) h)) (none-kept ok p xs fails (second_of (ok x) (list_all ok xs) h))
  where
    by_test : (b : Bool) → b ≡ false → filter p xs ≡ [] → cond b (x ∷ filter p xs) (filter p xs) ≡ []
    by_test true e rest = absurd (cc)
    by_test false e rest = rest

all-firsts : (alike : ℕ → ℕ → Bool) (ok : ℕ → Bool) (rs : List ℕ) → list_all ok rs ≡ true → list_all ok (firsts alike rs) ≡ true
all-firsts alike ok [] h = refl
all-firsts alike ok (r ∷ rs) h =
    both (ok r) (list_all ok (filter (λ q. not (alike r q)) (firsts alike rs))) (first_of (ok r) (list_all ok rs) h)
    (all-kept ok (λ q. not (alike r q)) (firsts alike rs) (all-firsts alike ok rs (second_of (ok r) (list_all ok rs) h)))

-- where all are alike there is one first at most
pub one-first : (alike : ℕ → ℕ → Bool) (ok : ℕ → Bool) (f : ℕ → ℕ) (most : ℕ) (rs : List ℕ) → ((q r : ℕ) → ok q ≡ true → ok r ≡ true → alike q r ≡ true) → ((r : ℕ) → ok r ≡ true → f r ≤ most) →
    list_all ok rs ≡ true → total f (firsts alike rs) ≤ most
one-first alike ok f most [] same small h = omega arith
one-first alike ok f most (r ∷ rs) same small h =
    let here : ok r ≡ true = first_of (ok r) (list_all ok rs) h in
    let none : filter (λ q. not (alike r q)) (firsts alike rs) ≡ [] =
    none-kept ok (λ q. not (alike r q)) (firsts alike rs) (λ q i. ap not (same r q here i)) (all-firsts alike ok rs (second_of (ok r) (list_all ok rs) h)) in
    let rest : total f (filter (λ q. not (alike r q)) (firsts alike rs)) ≡ 0 = ap (λ (xs : List ℕ). total f xs) none in
    let one : f r ≤ most = small r here in
    omega arith

-- a sum of ones at most
pub total-few : (f : ℕ → ℕ) (p : ℕ → Bool) (xs : List ℕ) → ((x : ℕ) → f x ≤ 1) → total f (filter p xs) ≤ length xs
total-few f p [] small = omega arith
total-few f p (x ∷ xs) small = by_test (p x) (total-few f p xs small)
  where
    by_test : (b : Bool) → total f (filter p xs) ≤ length xs → total f (cond b (x ∷ filter p xs) (filter p xs)) ≤ suc (length xs)
    by_test true rest = let one : f x ≤ 1 = small x in omega arith
    by_test false rest = omega arith

-- what all fails is not kept, by membership
pub none-passes : (p : ℕ → Bool) (xs : List ℕ) → ((x : ℕ) → list_any (nat_eq x) xs ≡ true → p x ≡ false) → filter p xs ≡ []
none-passes p [] fails = refl
none-passes p (x ∷ xs) fails = by_test (p x) (fails x here) (none-passes p xs (λ y i. fails y (there y (nat_eq y x) i)))
  where
    here : (nat_eq x x || list_any (nat_eq x) xs) ≡ true
    here = grind arith

    there : (y : ℕ) (b : Bool) → list_any (nat_eq y) xs ≡ true → (b || list_any (nat_eq y) xs) ≡ true
    there y true i = refl
    there y false i = i

    by_test : (b : Bool) → b ≡ false → filter p xs ≡ [] → cond b (x ∷ filter p xs) (filter p xs) ≡ []
    by_test true e rest = absurd (cc)
    by_test false e rest = rest

pub has-kept : (p : ℕ → Bool) (x : ℕ) (xs : List ℕ) → list_any (nat_eq x) xs ≡ true → p x ≡ true → list_any (nat_eq x) (filter p xs) ≡ true
has-kept p x [] h e = h
has-kept p x (y ∷ ys) h e = by_test (p y) (nat_eq x y) refl refl h (λ i. has-kept p x ys i e)
  where
    by_test : (b same : Bool) → p y ≡ b → nat_eq x y ≡ same → (same || list_any (nat_eq x) ys) ≡ true → (list_any (nat_eq x) ys ≡ true → list_any (nat_eq x) (filter p ys) ≡ true) → list_any (nat_eq x) (cond b (y ∷ filter p ys) (filter p ys)) ≡ true
    by_test true true f s i rest = rw s refl
    by_test true false f s i rest = rw s (rest i)
    by_test false true f s i rest = let it : x ≡ y = grind arith in let no : p x ≡ false = subst (λ (z : ℕ). p z ≡ false) (sym it) f in absurd (cc)
    by_test false false f s i rest = rest i

-- Going over a list for the first element that passes a test.
use Rattle.std.proofs.Common.{◌≡◌, ℕ, zero, suc, ◌+◌, ◌<◌, ◌≤◌, Bool, true, false, ◌||◌, cond, List, [], ◌∷◌, ◌++◌, length, take, drop, get_or, Some, None, refl, sym, ap, ◌∙◌, arith, add-one}
use Rattle.std.proofs.lemmas.Bool.{false≢true}
use Rattle.std.specs.List.{list_any, find}
use Rattle.std.proofs.lemmas.List.Folds.{list_any-append}
use Rattle.std.proofs.lemmas.List.{take_all}

split_suc : {A : Type 0} (xs : List A) (i : ℕ) (x : A) → i < length xs → x ≡ get_or xs i x → xs ≡ take i xs ++ x ∷ drop (suc i) xs
split_suc [] i x lt is = absurd (omega arith)
split_suc (y ∷ xs) zero x lt is = ap (λ z. z ∷ xs) (sym is)
split_suc (y ∷ xs) (suc i) x lt is = ap (λ zs. y ∷ zs) (split_suc xs i x (omega arith) is)

-- a list around one of its elements
pub split_at : {A : Type 0} (xs : List A) (i : ℕ) (x : A) → i < length xs → x ≡ get_or xs i x → xs ≡ take i xs ++ x ∷ drop (i + 1) xs
split_at xs i x lt is = split_suc xs i x lt is ∙ ap (λ n. take i xs ++ x ∷ drop n xs) (sym (add-one i))

next_suc : {A : Type 0} (xs : List A) (i : ℕ) (x : A) → i < length xs → x ≡ get_or xs i x → take (suc i) xs ≡ take i xs ++ x ∷ []
next_suc [] i x lt is = absurd (omega arith)
next_suc (y ∷ xs) zero x lt is = ap (λ z. z ∷ []) (sym is)
next_suc (y ∷ xs) (suc i) x lt is = ap (λ zs. y ∷ zs) (next_suc xs i x (omega arith) is)

pub take_next : {A : Type 0} (xs : List A) (i : ℕ) (x : A) → i < length xs → x ≡ get_or xs i x → take (i + 1) xs ≡ take i xs ++ x ∷ []
take_next xs i x lt is = ap (λ n. take n xs) (add-one i) ∙ next_suc xs i x lt is

one_false : {A : Type 0} (p : A → Bool) (x : A) → p x ≡ false → list_any p (x ∷ []) ≡ false
one_false p x fails = rw fails refl

-- the element at the place does not pass the test either
pub none_next : {A : Type 0} (p : A → Bool) (xs : List A) (i : ℕ) (x : A) → i < length xs → x ≡ get_or xs i x → p x ≡ false →
    list_any p (take i xs) ≡ false → list_any p (take (i + 1) xs) ≡ false
none_next p xs i x lt is fails h = rw (take_next xs i x lt is, list_any-append p (take i xs) (x ∷ []), h) (one_false p x fails)

-- no element passes it, once all were seen
pub none_at_all : {A : Type 0} (p : A → Bool) (xs : List A) (i : ℕ) → length xs ≤ i → list_any p (take i xs) ≡ false → list_any p xs ≡ false
none_at_all p xs i le h = ap (list_any p) (sym (take_all i xs le)) ∙ h

pub if_true : {X : Type 0} (b : Bool) (x y : X) → b ≡ true → cond b x y ≡ x
if_true true x y e = refl
if_true false x y e = absurd (false≢true e)

pub if_false : {X : Type 0} (b : Bool) (x y : X) → b ≡ false → cond b x y ≡ y
if_false true x y e = absurd (false≢true (sym e))
if_false false x y e = refl

pub left_false : (a b : Bool) → (a || b) ≡ false → a ≡ false
left_false true b h = h
left_false false b h = refl

pub right_false : (a b : Bool) → (a || b) ≡ false → b ≡ false
right_false true b h = absurd (false≢true (sym h))
right_false false b h = h

-- where no element passes the test, none is found
pub find_none : {A : Type 0} (p : A → Bool) (xs : List A) → list_any p xs ≡ false → find p xs ≡ None
find_none p [] h = refl
find_none p (x ∷ xs) h =
    if_false (p x) (Some x) (find p xs) (left_false (p x) (list_any p xs) h) ∙ find_none p xs (right_false (p x) (list_any p xs) h)

-- the first that passes it is found
pub find_first : {A : Type 0} (p : A → Bool) (front : List A) (x : A) (rest : List A) → list_any p front ≡ false → p x ≡ true → find p (front ++ x ∷ rest) ≡ Some x
find_first p [] x rest none passes = if_true (p x) (Some x) (find p rest) passes
find_first p (y ∷ front) x rest none passes =
    if_false (p y) (Some y) (find p (front ++ x ∷ rest)) (left_false (p y) (list_any p front) none)
    ∙ find_first p front x rest (right_false (p y) (list_any p front) none) passes

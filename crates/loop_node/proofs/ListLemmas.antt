-- Tests that all elements of a list pass, where one is taken out or exchanged.
use Rattle.std.proofs.Common.{◌≡◌, ℕ, zero, suc, ◌+◌, ◌<◌, Bool, true, false, ◌&&◌, List, [], ◌∷◌, ◌++◌, length, take, drop, get_or, refl, sym, ap, ◌∙◌, add-one}
use Rattle.std.proofs.Math.ListN.{set}
use Rattle.std.proofs.lemmas.Bool.{false≢true}
use Rattle.std.specs.List.{list_all}
use Rattle.loop_node.proofs.SeekLemmas.{split_at}

pub both : (a b : Bool) → a ≡ true → b ≡ true → (a && b) ≡ true
both true b h k = k
both false b h k = h

pub left : (a b : Bool) → (a && b) ≡ true → a ≡ true
left true b h = refl
left false b h = absurd (false≢true h)

pub right : (a b : Bool) → (a && b) ≡ true → b ≡ true
right true b h = h
right false b h = absurd (false≢true h)

pub all_set : {A : Type 0} (p : A → Bool) (xs : List A) (i : ℕ) (y : A) → list_all p xs ≡ true → p y ≡ true → list_all p (set xs i y) ≡ true
all_set p [] i y h k = refl
all_set p (x ∷ xs) zero y h k = both (p y) (list_all p xs) k (right (p x) (list_all p xs) h)
all_set p (x ∷ xs) (suc i) y h k = both (p x) (list_all p (set xs i y)) (left (p x) (list_all p xs) h) (all_set p xs i y (right (p x) (list_all p xs) h) k)

all_but_suc : {A : Type 0} (p : A → Bool) (xs : List A) (i : ℕ) → list_all p xs ≡ true → list_all p (take i xs ++ drop (suc i) xs) ≡ true
all_but_suc p [] zero h = refl
all_but_suc p [] (suc i) h = refl
all_but_suc p (x ∷ xs) zero h = right (p x) (list_all p xs) h
all_but_suc p (x ∷ xs) (suc i) h = both (p x) (list_all p (take i xs ++ drop (suc i) xs)) (left (p x) (list_all p xs) h) (all_but_suc p xs i (right (p x) (list_all p xs) h))

pub all_but : {A : Type 0} (p : A → Bool) (xs : List A) (i : ℕ) → list_all p xs ≡ true → list_all p (take i xs ++ drop (i + 1) xs) ≡ true
all_but p xs i h = ap (λ n. list_all p (take i xs ++ drop n xs)) (add-one i) ∙ all_but_suc p xs i h

-- those around an element, and the element
pub all_around : {A : Type 0} (p : A → Bool) (front : List A) (x : A) (rest : List A) → list_all p (front ++ x ∷ rest) ≡ true → p x ≡ true
all_around p [] x rest h = left (p x) (list_all p rest) h
all_around p (f ∷ front) x rest h = all_around p front x rest (right (p f) (list_all p (front ++ x ∷ rest)) h)

pub all_with : {A : Type 0} (p : A → Bool) (front : List A) (x y : A) (rest : List A) → list_all p (front ++ x ∷ rest) ≡ true → p y ≡ true → list_all p (front ++ y ∷ rest) ≡ true
all_with p [] x y rest h k = both (p y) (list_all p rest) k (right (p x) (list_all p rest) h)
all_with p (f ∷ front) x y rest h k =
    both (p f) (list_all p (front ++ y ∷ rest)) (left (p f) (list_all p (front ++ x ∷ rest)) h) (all_with p front x y rest (right (p f) (list_all p (front ++ x ∷ rest)) h) k)

pub all_at : {A : Type 0} (p : A → Bool) (xs : List A) (i : ℕ) (x : A) → i < length xs → x ≡ get_or xs i x → list_all p xs ≡ true → p x ≡ true
all_at p xs i x lt is h = all_around p (take i xs) x (drop (i + 1) xs) (ap (list_all p) (sym (split_at xs i x lt is)) ∙ h)

-- What holds of each element of a list that changes.
use Rattle.std.proofs.Common.{◌≡◌, ℕ, zero, suc, Bool, true, false, ◌||◌, List, [], ◌∷◌, ◌++◌, refl, ap, subst}
use Rattle.std.specs.Prelude.{Some}
use Rattle.std.specs.List.{slice_get, remove, insert, list_any}
use Rattle.grid_simulate.specs.Held.{Each, Apart}

some_one : {X : Type 0} (x y : X) → Some x ≡ Some y → x ≡ y
some_one x y e = cc

pub each_all : {X : Type 0} (P : X → Type 0) (xs : List X) → ((x : X) → P x) → Each P xs
each_all P [] h = tt
each_all P (x ∷ xs) h = (h x, each_all P xs h)

pub each_more : {X : Type 0} (P Q : X → Type 0) (xs : List X) → ((x : X) → P x → Q x) → Each P xs → Each Q xs
each_more P Q [] h each = tt
each_more P Q (x ∷ xs) h each = (h x each.0, each_more P Q xs h each.1)

pub each_push : {X : Type 0} (P : X → Type 0) (xs : List X) (x : X) → Each P xs → P x → Each P (xs ++ x ∷ [])
each_push P [] x each p = (p, tt)
each_push P (y ∷ ys) x each p = (each.0, each_push P ys x each.1 p)

pub each_at : {X : Type 0} (P : X → Type 0) (xs : List X) (i : ℕ) (x : X) → slice_get xs i ≡ Some x → Each P xs → P x
each_at P [] i x e each = absurd cc
each_at {X} P (y ∷ ys) zero x e each = subst (λ (z : X). P z) (some_one y x e) each.0
each_at P (y ∷ ys) (suc i) x e each = each_at P ys i x e each.1

pub each_removed : {X : Type 0} (P : X → Type 0) (xs : List X) (i : ℕ) → Each P xs → Each P (remove xs i)
each_removed P [] zero each = tt
each_removed P [] (suc i) each = tt
each_removed P (y ∷ ys) zero each = each.1
each_removed P (y ∷ ys) (suc i) each = (each.0, each_removed P ys i each.1)

pub each_inserted : {X : Type 0} (P : X → Type 0) (xs : List X) (i : ℕ) (x : X) → Each P xs → P x → Each P (insert xs i x)
each_inserted P [] zero x each p = (p, tt)
each_inserted P [] (suc i) x each p = (p, tt)
each_inserted P (y ∷ ys) zero x each p = (p, each)
each_inserted P (y ∷ ys) (suc i) x each p = (each.0, each_inserted P ys i x each.1 p)

pub apart_removed : {X : Type 0} (alike : X → X → Bool) (xs : List X) (i : ℕ) → Apart alike xs → Apart alike (remove xs i)
apart_removed alike [] zero apart = tt
apart_removed alike [] (suc i) apart = tt
apart_removed alike (y ∷ ys) zero apart = apart.1
apart_removed {X} alike (y ∷ ys) (suc i) apart =
    (each_removed (λ (z : X). alike y z ≡ false) ys i apart.0, apart_removed alike ys i apart.1)

pub apart_push : {X : Type 0} (alike : X → X → Bool) (xs : List X) (x : X) → Apart alike xs → Each (λ y. alike y x ≡ false) xs → Apart alike (xs ++ x ∷ [])
apart_push alike [] x apart each = (tt, tt)
apart_push {X} alike (y ∷ ys) x apart each =
    (each_push (λ (z : X). alike y z ≡ false) ys x apart.0 each.0, apart_push alike ys x apart.1 each.1)

-- an element that is taken out is apart from the others
pub apart_from : {X : Type 0} (alike : X → X → Bool) (xs : List X) (i : ℕ) (x : X) → ((y z : X) → alike y z ≡ false → alike z y ≡ false) →
    slice_get xs i ≡ Some x → Apart alike xs → Each (λ y. alike x y ≡ false) (remove xs i)
apart_from alike [] i x turns e apart = absurd cc
apart_from {X} alike (y ∷ ys) zero x turns e apart =
    subst (λ (z : X). Each (λ (w : X). alike z w ≡ false) ys) (some_one y x e) apart.0
apart_from {X} alike (y ∷ ys) (suc i) x turns e apart =
    (turns y x (each_at (λ (z : X). alike y z ≡ false) ys i x e apart.0), apart_from alike ys i x turns e apart.1)

-- an element that is put back where it was taken out
pub put_back : {X : Type 0} (xs : List X) (i : ℕ) (x : X) → slice_get xs i ≡ Some x → insert (remove xs i) i x ≡ xs
put_back [] i x e = absurd cc
put_back {X} (y ∷ ys) zero x e = ap (λ (z : X). z ∷ ys) (subst (λ (z : X). z ≡ y) (some_one y x e) refl)
put_back {X} (y ∷ ys) (suc i) x e = ap (λ (zs : List X). y ∷ zs) (put_back ys i x e)

pub any_left : {X : Type 0} (p : X → Bool) (xs : List X) (x : X) → list_any p xs ≡ true → list_any p (xs ++ x ∷ []) ≡ true
any_left p [] x h = absurd cc
any_left {X} p (y ∷ ys) x h = by_test (p y) (list_any p ys) (list_any p (ys ++ x ∷ [])) h (any_left p ys x)
  where
    by_test : (b c d : Bool) → (b || c) ≡ true → (c ≡ true → d ≡ true) → (b || d) ≡ true
    by_test true c d h g = refl
    by_test false c d h g = g h

pub any_last : {X : Type 0} (p : X → Bool) (xs : List X) (x : X) → p x ≡ true → list_any p (xs ++ x ∷ []) ≡ true
any_last {X} p [] x h = by_test (p x) h
  where
    by_test : (b : Bool) → b ≡ true → (b || false) ≡ true
    by_test true h = refl
    by_test false h = h
any_last {X} p (y ∷ ys) x h = by_test (p y) (list_any p (ys ++ x ∷ [])) (any_last p ys x h)
  where
    by_test : (b c : Bool) → c ≡ true → (b || c) ≡ true
    by_test true c h = refl
    by_test false c h = h

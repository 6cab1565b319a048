-- Texts joined by a byte, one more at the end.
use Rattle.std.proofs.Common.{◌≡◌, ℕ, ◌+◌, ◌<◌, Bool, true, false, cond, ◌==◌, List, [], ◌∷◌, ◌++◌, length, map, take, get_or, refl, ap, subst, sym, ◌∙◌, arith, append_assoc, append-nil}
use Rattle.std.specs.List.{join_with_byte, filter}
use Rattle.std.proofs.lemmas.Bool.Decides.{nat_tests}
use Rattle.std.proofs.lemmas.List.Elements.{filter-append}
use Rattle.std.proofs.lemmas.List.{take_more, length-take-le, length-map, map-append}

-- behind others, one more comes after the byte
pub join_with_byte-append : (c : ℕ) (xs : List (List ℕ)) (x : List ℕ) → 0 < length xs → join_with_byte c (xs ++ (x ∷ [])) ≡ join_with_byte c xs ++ (c ∷ x)
join_with_byte-append c [] x some = absurd (omega arith)
join_with_byte-append c (y ∷ []) x some = refl
join_with_byte-append c (y ∷ z ∷ ys) x some =
    ap (λ (v : List ℕ). y ++ (c ∷ v)) (join_with_byte-append c (z ∷ ys) x (omega arith))
    ∙ sym (append_assoc y (c ∷ join_with_byte c (z ∷ ys)) (c ∷ x))

-- the first of what is written for each element
pub joined-first : {X : Type 0} (c : ℕ) (f : X → List ℕ) (xs : List X) (i : ℕ) (x : X) → i < length xs → x ≡ get_or xs i x → i ≡ 0
    → join_with_byte c (map f (take (i + 1) xs)) ≡ f x
joined-first c f xs i x within is first =
    rw (take_more xs i x within, map-append, first) (ap f (sym (subst (λ (k : ℕ). x ≡ get_or xs k x) first is)))

-- one more comes after the byte
pub joined-next : {X : Type 0} (c : ℕ) (f : X → List ℕ) (xs : List X) (i : ℕ) (x : X) → i < length xs → x ≡ get_or xs i x → 0 < i
    → join_with_byte c (map f (take (i + 1) xs)) ≡ join_with_byte c (map f (take i xs)) ++ (c ∷ f x)
joined-next c f xs i x within is later =
    let some : 0 < length (map f (take i xs)) = omega (arith, length-map (take i xs) f, length-take-le i xs (omega arith)) in
    rw (take_more xs i x within, map-append, ← is) (join_with_byte-append c (map f (take i xs)) (f x) some)

-- the kept of one more element
kept : {X : Type 0} (p : X → Bool) (xs : List X) (i : ℕ) (x : X) → i < length xs → x ≡ get_or xs i x
    → filter p (take (i + 1) xs) ≡ filter p (take i xs) ++ filter p (x ∷ [])
kept p xs i x within is = rw (take_more xs i x within, ← is) (filter-append p (take i xs) (x ∷ []))

pub kept-more : {X : Type 0} (p : X → Bool) (xs : List X) (i : ℕ) (x : X) → i < length xs → x ≡ get_or xs i x → p x ≡ true
    → filter p (take (i + 1) xs) ≡ filter p (take i xs) ++ x ∷ []
kept-more p xs i x within is keeps = kept p xs i x within is ∙ ap (λ (b : Bool). filter p (take i xs) ++ cond b (x ∷ []) []) keeps

pub kept-same : {X : Type 0} (p : X → Bool) (xs : List X) (i : ℕ) (x : X) → i < length xs → x ≡ get_or xs i x → p x ≡ false
    → filter p (take (i + 1) xs) ≡ filter p (take i xs)
kept-same p xs i x within is drops =
    kept p xs i x within is ∙ ap (λ (b : Bool). filter p (take i xs) ++ cond b (x ∷ []) []) drops ∙ append-nil (filter p (take i xs))

-- one more that is written comes after the byte where it is not the first
pub joined-after : {X : Type 0} (c : ℕ) (f : X → List ℕ) (xs : List X) (x : X) (first : Bool) → first ≡ (length xs == 0)
    → join_with_byte c (map f (xs ++ x ∷ [])) ≡ join_with_byte c (map f xs) ++ cond first (f x) (c ∷ f x)
joined-after c f [] x first e = rw e refl
joined-after c f (y ∷ ys) x first e =
    let later : (length (y ∷ ys) == 0) ≡ false = grind (arith, nat_tests) in
    ap (join_with_byte c) (map-append f (y ∷ ys) (x ∷ []))
    ∙ join_with_byte-append c (map f (y ∷ ys)) (f x) (omega (arith, length-map (y ∷ ys) f))
    ∙ ap (λ (b : Bool). join_with_byte c (map f (y ∷ ys)) ++ cond b (f x) (c ∷ f x)) (sym (e ∙ later))

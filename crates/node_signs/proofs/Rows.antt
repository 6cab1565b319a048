-- Texts in a row, one more at the end.
use Rattle.std.proofs.Common.{◌≡◌, ℕ, ◌+◌, ◌<◌, List, [], ◌∷◌, ◌++◌, length, map, take, get_or, refl, ap, sym, ◌∙◌, arith, append_assoc}
use Rattle.std.specs.List.{join_with_byte}
use Rattle.std.proofs.lemmas.List.{take_more, length-take-le, length-map, map-append}
use Rattle.node_signs.specs.Signs.{comma}

-- one more text, behind a comma if it is not the first
join-more : (ts : List (List ℕ)) (t : List ℕ) → join_with_byte 44 (ts ++ t ∷ []) ≡ join_with_byte 44 ts ++ (comma (length ts) ++ t)
join-more [] t = refl
join-more (y ∷ []) t = refl
join-more (y ∷ z ∷ ys) t =
    ap (λ (v : List ℕ). y ++ (44 ∷ v)) (join-more (z ∷ ys) t)
    ∙ sym (append_assoc y (44 ∷ join_with_byte 44 (z ∷ ys)) (44 ∷ t))

-- the next of what is written for each element
pub joined-map : {X : Type 0} (f : X → List ℕ) (xs : List X) (i : ℕ) (d : X) → i < length xs
    → join_with_byte 44 (map f (take (i + 1) xs)) ≡ join_with_byte 44 (map f (take i xs)) ++ (comma i ++ f (get_or xs i d))
joined-map f xs i d within =
    let n : length (map f (take i xs)) ≡ i = length-map (take i xs) f ∙ length-take-le i xs (omega arith) in
    rw (take_more xs i d within, map-append)
    (join-more (map f (take i xs)) (f (get_or xs i d)) ∙ ap (λ (k : ℕ). join_with_byte 44 (map f (take i xs)) ++ (comma k ++ f (get_or xs i d))) n)

-- Lengths that are added up.
use Rattle.std.proofs.Common.{◌≡◌, ℕ, ◌+◌, ◌<◌, List, [], ◌∷◌, ◌++◌, map, length, get_or, take, refl, ap, sym, ◌∙◌, arith}
use Rattle.std.proofs.lemmas.List.{take_more, length-append}
use Rattle.std.specs.List.{join_with_byte}
use Rattle.grid_types.specs.declared.capabilities.Cap.{Cap}
use Rattle.grid_types.specs.Lists.{total}
use Rattle.grid_types.specs.Capabilities.{written_caps, written_member}

total_last : {X : Type 0} (f : X → ℕ) (xs : List X) (x : X) → total f (xs ++ x ∷ []) ≡ total f xs + f x
total_last f [] x = omega arith
total_last f (y ∷ ys) x = let rest = total_last f ys x in omega (arith, rest)

-- one element more
pub total_step : {X : Type 0} (f : X → ℕ) (xs : List X) (i : ℕ) (x : X) → i < length xs → x ≡ get_or xs i x → total f (take (i + 1) xs) ≡ total f (take i xs) + f x
total_step f xs i x below here =
    ap (total f) (take_more xs i x below) ∙ total_last f (take i xs) (get_or xs i x) ∙ ap (λ (y : _). total f (take i xs) + f y) (sym here)

-- the length of lists joined by a byte, with one byte more
joined_length : (x : List ℕ) (xs : List (List ℕ)) → length (join_with_byte 44 (x ∷ xs)) + 1 ≡ total (λ y. length y + 1) (x ∷ xs)
joined_length x [] = omega arith
joined_length x (y ∷ xs) = let rest = joined_length y xs in omega (arith, rest, length-append x (44 ∷ join_with_byte 44 (y ∷ xs)))

total_map : {X Y : Type 0} (f : Y → ℕ) (g : X → Y) (xs : List X) → total f (map g xs) ≡ total (λ x. f (g x)) xs
total_map f g [] = refl
total_map f g (x ∷ xs) = ap (λ (n : ℕ). f (g x) + n) (total_map f g xs)

pub caps_length : (caps : List Cap) → 0 < length caps → length (written_caps caps) ≡ 1 + total (λ m. length (written_member m) + 1) caps
unfolding written_caps
caps_length [] some = absurd (omega arith)
caps_length (m ∷ ms) some =
    let joined = joined_length (written_member m) (map written_member ms) in
    let mapped = total_map (λ (x : List ℕ). length x + 1) written_member ms in
    omega (arith, joined, mapped, length-append (join_with_byte 44 (map written_member (m ∷ ms))) (125 ∷ []))

pub no_caps_length : (caps : List Cap) → length caps ≡ 0 → length (written_caps caps) ≡ 2
unfolding written_caps
no_caps_length [] none = refl
no_caps_length (m ∷ ms) none = absurd (omega arith)

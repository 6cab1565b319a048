-- Sizes that are added up.
use Rattle.std.proofs.Common.{◌≡◌, ℕ, ◌+◌, ◌<◌, List, [], ◌∷◌, ◌++◌, length, get_or, take, ap, sym, ◌∙◌, arith}
use Rattle.std.proofs.lemmas.List.{take_more}
use Rattle.grid_types.specs.Lists.{total}

total_last : {X : Type 0} (f : X → ℕ) (xs : List X) (x : X) → total f (xs ++ x ∷ []) ≡ total f xs + f x
total_last f [] x = omega arith
total_last f (y ∷ ys) x = let rest = total_last f ys x in omega (arith, rest)

-- one element more
pub total_step : {X : Type 0} (f : X → ℕ) (xs : List X) (i : ℕ) (x : X) → i < length xs → x ≡ get_or xs i x → total f (take (i + 1) xs) ≡ total f (take i xs) + f x
total_step f xs i x below here =
    ap (total f) (take_more xs i x below) ∙ total_last f (take i xs) (get_or xs i x) ∙ ap (λ (y : _). total f (take i xs) + f y) (sym here)

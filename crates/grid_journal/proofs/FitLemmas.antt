-- A list of which each so far fits.
use Rattle.std.proofs.Common.{◌≡◌, ℕ, ◌+◌, ◌<◌, List, [], ◌∷◌, ◌++◌, length, get_or, take, sym, subst}
use Rattle.std.proofs.lemmas.List.{take_more}
use Rattle.grid_journal.specs.Fits.{AllFit}

all_fit_last : {X : Type 0} (P : X → Type 0) (xs : List X) (x : X) → AllFit P xs → P x → AllFit P (xs ++ x ∷ [])
all_fit_last P [] x fit last = (last, tt)
all_fit_last P (y ∷ ys) x fit last = (fit.0, all_fit_last P ys x fit.1 last)

pub one_more_fits : {X : Type 0} (P : X → Type 0) (xs : List X) (i : ℕ) (x : X) → i < length xs → x ≡ get_or xs i x → AllFit P (take i xs) → P x → AllFit P (take (i + 1) xs)
one_more_fits {X} P xs i x below is fit last =
    subst (λ (ys : List X). AllFit P ys) (sym (take_more xs i x below)) (all_fit_last P (take i xs) (get_or xs i x) fit (subst P is last))

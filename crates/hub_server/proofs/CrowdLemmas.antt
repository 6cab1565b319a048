-- What holds of the passes at hand.
use Rattle.std.proofs.Common.{◌≡◌, Bool, true, false, List, [], ◌∷◌, ◌++◌, All, subst, sym, cond}
use Rattle.std.proofs.lemmas.List.Elements.{All-push}

-- it holds of each where one more was put behind them, or found no room
pub all_pushed : {X : Type 0} (P : X → Type 0) (fits : Bool) (xs : List X) (x : X) (new : List X) →
    new ≡ cond fits (xs ++ x ∷ []) xs → All P xs → P x → All P new
all_pushed P true xs x new e all p = subst (All P) (sym e) (All-push P xs x all p)
all_pushed P false xs x new e all p = subst (All P) (sym e) all

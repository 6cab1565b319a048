-- What the words of the program say.
use Rattle.std.specs.Prelude.{◌≡◌, ◌⊎◌, ℕ, ◌<◌, ◌^◌, List, [], ◌∷◌, codes}
use Rattle.play_words.specs.Words.{IsNumbered}

-- `check` alone
abbrev pub IsCheck : List (List ℕ) → Type 0
IsCheck words = words ≡ codes "check" ∷ []

-- `make` and a number
abbrev pub IsMake : List (List ℕ) → ℕ → Type 0
IsMake words number = IsNumbered words (codes "make") number

abbrev pub FitMake : List (List ℕ) → Type 0
FitMake words = (number : ℕ) × (number < 2 ^ 64) × IsMake words number

-- the words fit
abbrev pub Fit : List (List ℕ) → Type 0
Fit words = IsCheck words ⊎ FitMake words

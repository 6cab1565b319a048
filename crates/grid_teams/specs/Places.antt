-- The place of a name in a list of names.
use Rattle.std.specs.Prelude.{◌≢◌, ◌+◌, ℕ, List, [], ◌∷◌, Option, None, Some, option_map, map, bytes_eq, if◌then◌else◌}

-- the names of a list
abbrev pub names_by : {A : Type 0} → (A → List ℕ) → List A → List (List ℕ)
names_by name items = map name items

-- the place of the first of that name
abbrev pub place_of : List ℕ → List (List ℕ) → Option ℕ
place_of name [] = None
place_of name (n ∷ names) = if bytes_eq n name then Some 0 else option_map (λ place. place + 1) (place_of name names)

-- the name stands nowhere
abbrev pub StandsNowhere : List ℕ → List (List ℕ) → Type 0
StandsNowhere name [] = Unit {0}
StandsNowhere name (n ∷ names) = (n ≢ name) × StandsNowhere name names

-- no name stands at two places
abbrev pub AreDifferent : List (List ℕ) → Type 0
AreDifferent [] = Unit {0}
AreDifferent (n ∷ names) = StandsNowhere n names × AreDifferent names

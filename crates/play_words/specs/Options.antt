-- The options behind the nodes: nothing, or a name and a value.
use Rattle.std.specs.Prelude.{◌≡◌, ℕ, ◌*◌, ◌≤◌, Bool, true, false, List, [], ◌∷◌, ◌++◌, Option, None, Some, codes, decimal}
use Rattle.grid_types.specs.Config.{default_config}

abbrev pub refusal_name : List ℕ
refusal_name = codes "--reject-unsupported-caps"

abbrev pub timeout_name : List ℕ
timeout_name = codes "--session-request-timeout"

-- the words of an option
abbrev pub option_words : List ℕ → Option (List ℕ) → List (List ℕ)
option_words name None = []
option_words name (Some value) = name ∷ value ∷ []

-- the words do not end with the option
abbrev pub IsOpen : List ℕ → List (List ℕ) → Type 0
IsOpen name words = (front : List (List ℕ)) (value : List ℕ) → words ≡ front ++ name ∷ value ∷ [] → ⊥

-- the words are these and then the option, which is left out only where they don't end with it
pub record IsSplit (name : List ℕ) (words front : List (List ℕ)) (value : Option (List ℕ)) : Type 0 where
  pub spelled : words ≡ front ++ option_words name value
  pub whole : value ≡ None → IsOpen name front

-- `play`, the words of the nodes, and the two options in their order
pub record AreParts (words nodes : List (List ℕ)) (refusal timeout : Option (List ℕ)) : Type 0 where
  pub others : List (List ℕ)
  pub front : List (List ℕ)
  pub begins : words ≡ codes "play" ∷ others
  pub timeout_split : IsSplit timeout_name others front timeout
  pub refusal_split : IsSplit refusal_name front nodes refusal

-- a request that no slot matches is refused
abbrev pub truth : Bool → List ℕ
truth true = codes "true"
truth false = codes "false"

abbrev pub SaysRefusal : Option (List ℕ) → Bool → Type 0
SaysRefusal None refused = refused ≡ false
SaysRefusal (Some word) refused = word ≡ truth refused

-- seconds from 1 to 86,400, as milliseconds
abbrev pub SaysTimeout : Option (List ℕ) → ℕ → Type 0
SaysTimeout None ms = ms ≡ default_config.timeout_ms
SaysTimeout (Some word) ms =
    (seconds : ℕ) × (word ≡ decimal seconds) × (1 ≤ seconds) × (seconds ≤ 86_400) × (ms ≡ seconds * 1_000)

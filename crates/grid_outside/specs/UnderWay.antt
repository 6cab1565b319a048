-- An exchange that was made and is yet to be told of.
use Rattle.std.specs.Prelude.{◌≡◌, ℕ, Bool, true, List, Option, None, Some, Ok, Err}
use Rattle.grid_outside.specs.declared.exchange.Ask.{Ask}
use Rattle.grid_outside.specs.Exchanges.{Came, CameSo, is_within}

-- what came of it is within the limits of a reply
abbrev pub is_kept_within : Option Came → Bool
is_kept_within None = true
is_kept_within (Some (Ok reply)) = is_within reply
is_kept_within (Some (Err fault)) = true

-- what exchanges have made of the nodes, but for one that is yet to be told of
abbrev pub told_state : {S : Type 0} → S → Option Came → S → S
told_state before None nodes = nodes
told_state before (Some came) nodes = before

-- which exchange is under way
abbrev pub IsUnderWay : {S : Type 0} → (S → List ℕ → Ask → Came → S → Type 0) → (S → ℕ) → S → Option Came → S →
    Option (List ℕ × Ask) → Type 0
IsUnderWay gives faults before came nodes None = came ≡ None
IsUnderWay gives faults before None nodes (Some asked) = ⊥
IsUnderWay gives faults before (Some came) nodes (Some asked) =
    CameSo gives faults before asked.0 asked.1 came nodes

-- What goes before a request, as it is done step by step.
use Rattle.std.specs.Prelude.{ℕ, Bool, true, false, List, [], ◌∷◌, ◌++◌, None, Some}
use Rattle.grid_types.specs.Calls.{Call, Reply}
use Rattle.node_client.specs.Steps.{Step, Called}
use Rattle.conn_script.specs.Begin.{Begins, BeginLacks, Expires, ExpireLacks}

-- the driver's own nodes give a sign of life, in their order
pub data Beaten : List ℕ → List Step → Type 0 where
  none_beaten : Beaten [] []
  beats_one : (nodes : List ℕ) (steps : List Step) (node at : ℕ) (reply : Reply) → Beaten nodes steps →
      Beaten (nodes ++ node ∷ []) (steps ++ Called (Call.beat node None) at (Some reply) ∷ [])

-- the idle sessions were ended, or memory was wanted there
abbrev pub ExpiresOrLacks : Bool → List Step → Type 0
ExpiresOrLacks true steps = Expires steps
ExpiresOrLacks false steps = ExpireLacks steps

-- what goes before a request was done, or memory was wanted there
abbrev pub BeginsOrLacks : List ℕ → Bool → List Step → Type 0
BeginsOrLacks nodes true steps = Begins nodes steps
BeginsOrLacks nodes false steps = BeginLacks nodes steps

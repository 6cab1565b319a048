-- What a node says of itself when it registers.
use Rattle.std.specs.Prelude.{ℕ, List, [], ◌∷◌, ◌++◌, None, codes, decimal}
use Rattle.grid_types.specs.declared.capabilities.Cap.{Cap}
use Rattle.grid_types.specs.declared.capabilities.CapValue.TheVariants as value
use Rattle.grid_types.specs.declared.capabilities.Registration.{Registration}

abbrev pub text_cap : List ℕ → List ℕ → Cap
text_cap name text = record { name = name; value = value.Text text }

-- the stereotype of its slots
abbrev pub node_stereotype : List ℕ → List Cap
node_stereotype browser =
    text_cap (codes "browserName") browser
    ∷ text_cap (codes "browserVersion") (codes "126.0")
    ∷ text_cap (codes "platformName") (codes "linux")
    ∷ []

-- a port of this machine
abbrev pub local_address : ℕ → List ℕ
local_address port = codes "127.0.0.1:" ++ decimal port

-- a node at a port of this machine, with one group of as many slots as it may have sessions
abbrev pub node_registration : List ℕ → ℕ → List ℕ → ℕ → Registration
node_registration name port browser slots = record {
  name = name;
  address = local_address port;
  max_sessions = slots;
  groups = record { stereotype = node_stereotype browser; count = slots } ∷ [];
  drain_after = None;
}

-- The eight nodes of a simulation.
use Rattle.std.specs.Prelude.{ℕ, zero, suc, ◌+◌, List, [], ◌∷◌, ◌++◌, ◌==◌, if◌then◌else◌, None, codes, decimal}
use Rattle.grid_types.specs.declared.capabilities.Registration.{Registration}
use Rattle.grid_types.specs.Calls.{Call}
use Rattle.loop_node.specs.Sessions.{new_node, node_caps}
use Rattle.loop_node.specs.Links.{node_address}
use Rattle.grid_simulate.specs.World.{World, draw, drawn, called}

-- the version of every node's browser
abbrev pub version : List ℕ
version = codes "126.0"

-- a node's browser by a draw below 3
abbrev pub browser_of : ℕ → List ℕ
browser_of n =
    if n == 0 then codes "chrome"
    else if n == 1 then codes "firefox"
    else codes "safari"

-- node i of a browser, with so many slots and as many sessions at most
abbrev pub registration_of : ℕ → List ℕ → ℕ → Registration
registration_of i browser slots = record {
  name = codes "sim-" ++ decimal i;
  address = node_address i;
  max_sessions = slots;
  groups = (record { stereotype = node_caps browser version; count = slots }) ∷ [];
  drain_after = None;
}

-- node i comes: its browser, its slots and the starts that it refuses are drawn, in this order, and it registers
abbrev pub joins_as : World → ℕ → List ℕ → ℕ → ℕ → World
joins_as w i browser slots refuses = record (called w (Call.register (registration_of i browser slots))) {
  nodes = w.nodes ++ new_node i browser version slots refuses ∷ [];
}

abbrev pub joined : World → ℕ → World
joined w i =
    joins_as (drawn (drawn (drawn w))) i (browser_of (draw w 3)) (1 + draw (drawn w) 4) (draw (drawn (drawn w)) 3)

-- nothing has happened yet
abbrev pub empty_world : ℕ → World
empty_world number = record {
  number = number;
  moment = 0;
  history = [];
  nodes = [];
  tickets = [];
  reservations = [];
  sessions = [];
}

-- the world with the first n nodes
unfoldable pub crew : ℕ → ℕ → World
crew number zero = empty_world number
crew number (suc n) = joined (crew number n) (n + 1)

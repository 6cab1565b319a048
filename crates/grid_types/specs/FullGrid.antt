-- The hub with as many nodes as it may list. It stands in a file of its own, since it takes some
-- twenty seconds to compute.
use Rattle.std.specs.Prelude.{◌≡◌, ℕ, zero, suc, List, [], ◌∷◌, codes}
use Rattle.grid_types.specs.declared.entry.Entry.{Entry}
use Rattle.grid_types.specs.declared.entry.Change.TheVariants as change
use Rattle.grid_types.specs.Config.{default_config}
use Rattle.grid_types.specs.Calls.{Call, Reply}
use Rattle.grid_types.specs.HubAnswers.{hub}
use Rattle.grid_types.specs.WorkedHistories.{node, chrome, first_address}

-- so many registrations, each under a name of its own
abbrev pub many : ℕ → List Entry
many zero = []
many (suc n) = record { caller = 0; change = change.Registered (suc n) (node (suc n ∷ []) first_address chrome 1) (record { 0 = 0 }) } ∷ many n

-- one more registration is refused where as many nodes are listed as may be
abbrev pub WorkedFullGrid : Type 0
WorkedFullGrid = (hub default_config (many 1_024) 0 (Call.register (node (codes "other") first_address chrome 1)) 0).reply ≡ Reply.nodes_full 1_024

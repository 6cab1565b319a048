-- The last polls of a simulation.
use Rattle.std.specs.Prelude.{◌≡◌, List, [], ◌∷◌}
use Rattle.grid_types.specs.declared.entry.Entry.{Entry}
use Rattle.grid_types.specs.Tokens.{Ticket}
use Rattle.grid_types.specs.Calls.{Call}
use Rattle.grid_simulate.specs.World.{World, called}

-- the first ticket was polled, and then this is the history
abbrev pub PollsFirst : List Ticket → World → List Entry → Type 0
PollsFirst [] w later = later ≡ w.history
PollsFirst (t ∷ ts) w later = later ≡ (called w (Call.poll t)).history

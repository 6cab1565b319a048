-- The simulation of a number.
use Rattle.std.specs.Prelude.{◌≡◌, ℕ, ◌+◌, List, [], ◌∷◌, length, take, reverse}
use Rattle.grid_types.specs.Tokens.{Ticket}
use Rattle.grid_types.specs.Calls.{Call}
use Rattle.hub_core.specs.HubView.{HubView, past}
use Rattle.grid_simulate.specs.declared.summary.Summary.{Summary}
use Rattle.grid_simulate.specs.World.{World, draw, drawn, called, simulated_config}
use Rattle.grid_simulate.specs.Crew.{crew}
use Rattle.grid_simulate.specs.Starts.{StartsAll}
use Rattle.grid_simulate.specs.Actions.{Acts, action_of}
use Rattle.grid_simulate.specs.Counts.{summary_of}

-- the moment rises by a draw below 2,000
abbrev pub risen : World → World
risen w = record (drawn w) { moment = w.moment + draw w 2_000 }

-- one step: the moment rises, an action is drawn, and it is done
abbrev pub StepsOnce : World → World → Type 0
StepsOnce old new = Acts (action_of (draw (risen old) 12)) (drawn (risen old)) new

-- so many steps
pub data Steps : ℕ → World → World → Type 0 where
  none_yet : (w : World) → Steps 0 w w
  one_more : (n : ℕ) (old now new : World) → Steps n old now → StepsOnce now new → Steps (n + 1) old new

-- the world of a number's simulation at its summary: eight nodes, two thousand steps, and then each reservation that is
-- left is started
pub record Simulates (number : ℕ) (end : World) : Type 0 where
  pub last : World
  pub steps : Steps 2_000 (crew number 8) last
  pub starts : StartsAll last.reservations last end

-- a minute later each ticket is polled, in order
abbrev pub polled_all : List Ticket → World → World
polled_all [] w = w
polled_all (t ∷ ts) w = polled_all ts (called w (Call.poll t))

abbrev pub settled : World → World
settled w = polled_all w.tickets (record w { moment = w.moment + 60_000 })

-- The first entries of the hub's journal, so many, are the history of the number's simulation at its summary, and the
-- summary counts them. Behind them stands what settles the requests whose tickets were kept.
pub record IsSimulated (number : ℕ) (hub : HubView) (at : ℕ) (summary : Summary) : Type 0 where
  pub end : World
  pub simulated : Simulates number end
  pub first : take at hub.journal ≡ reverse end.history
  pub all_of_them : at ≡ length end.history
  pub counted : summary ≡ summary_of end.history
  pub rest : past hub ≡ (settled end).history
  pub config : hub.config ≡ simulated_config

use Rattle.std.proofs.Common.{◌≡◌, true, length}
use Rattle.grid_simulate.specs.Held.{IsSound}
use Rattle.grid_simulate.specs.World.{World, world_of}
use Rattle.grid_simulate.specs.Starts.{StartsAll}
use Rattle.grid_simulate.proofs.simulation.Simulation.start_all.Given as goal

-- whatever goes on from here goes on from the start
abbrev pub invariant-starts : goal.invariant-starts
invariant-starts l = record {
  sound : IsSound l.self;
  moment : l.self.moment ≡ l.fn.self.moment;
  goes_on : l.full ≡ true → (v : World) → StartsAll l.self.reservations.items (world_of l.self) v → StartsAll l.fn.self.reservations.items (world_of l.fn.self) v;
}

abbrev pub decreases-starts : goal.decreases-starts
decreases-starts l = length l.self.reservations.items

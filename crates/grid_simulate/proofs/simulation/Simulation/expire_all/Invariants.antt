use Rattle.std.proofs.Common.{◌≡◌}
use Rattle.grid_simulate.specs.Held.{IsSound}
use Rattle.grid_simulate.specs.World.{World, world_of}
use Rattle.grid_simulate.specs.Actions.{Expires}
use Rattle.grid_simulate.proofs.simulation.Simulation.expire_all.Given as goal

-- whatever goes on from here goes on from the start
abbrev pub invariant-loop-look : goal.invariant-loop-look
invariant-loop-look l = record {
  sound : IsSound l.self;
  moment : l.self.moment ≡ l.fn.self.moment;
  goes_on : (v : World) → Expires (world_of l.self) v → Expires (world_of l.fn.self) v;
}

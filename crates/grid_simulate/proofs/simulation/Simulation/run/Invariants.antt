use Rattle.std.proofs.Common.{◌≤◌, ◌*◌}
use Rattle.grid_simulate.specs.Held.{IsSound}
use Rattle.grid_simulate.specs.World.{world_of}
use Rattle.grid_simulate.specs.Simulates.{Steps}
use Rattle.grid_simulate.proofs.simulation.Simulation.run.Given as goal

-- so many steps were made
abbrev pub invariant-loop-done : goal.invariant-loop-done
invariant-loop-done l = record {
  sound : IsSound l.self;
  moment : l.self.moment ≤ 2_000 * l.done;
  steps : Steps l.done (world_of l.fn.self) (world_of l.self);
}

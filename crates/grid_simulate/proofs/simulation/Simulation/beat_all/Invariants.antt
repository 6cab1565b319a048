use Rattle.std.proofs.Common.{◌≡◌}
use Rattle.grid_types.specs.Lists.{numbers_from}
use Rattle.grid_simulate.specs.Held.{IsSound}
use Rattle.grid_simulate.specs.World.{world_of}
use Rattle.grid_simulate.specs.Actions.{beaten}
use Rattle.grid_simulate.proofs.simulation.Simulation.beat_all.Given as goal

-- the first nodes gave their sign of life
abbrev pub invariant-loop-i : goal.invariant-loop-i
invariant-loop-i l = record {
  sound : IsSound l.self;
  moment : l.self.moment ≡ l.fn.self.moment;
  beat : world_of l.self ≡ beaten (numbers_from 1 l.i) (world_of l.fn.self);
}

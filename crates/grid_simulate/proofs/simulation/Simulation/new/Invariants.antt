use Rattle.std.proofs.Common.{◌≡◌}
use Rattle.grid_simulate.specs.World.{simulated_config}
use Rattle.grid_simulate.specs.Crew.{crew}
use Rattle.grid_simulate.specs.Joining.{gathered}
use Rattle.grid_simulate.proofs.simulation.Simulation.new.Given as goal

-- the first nodes have come
abbrev pub invariant-loop-i : goal.invariant-loop-i
invariant-loop-i l = record {
  config : l.hub.config ≡ simulated_config;
  come : gathered l.drawn l.hub l.nodes ≡ crew l.number l.i;
}

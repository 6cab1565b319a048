use Rattle.std.proofs.Common.{◌≤◌}
use Rattle.grid_keeper.specs.Keeping.{WentAlong}
use Rattle.grid_keeper.specs.Settling.{IsIdle, QuitsOn}
use Rattle.grid_keeper.proofs.settling.take_all.Given as goal

abbrev pub invariant-loop : goal.invariant-loop
invariant-loop g l =
    WentAlong g.K.Keeper.disk l.fn.hub l.hub
    × IsIdle g.K.Keeper.disk l.hub l.left
    × (g.K.Keeper.faults l.fn.hub.keeper ≤ g.K.Keeper.faults l.hub.keeper)
    × QuitsOn g.N.NodeLink.gives l.fn.nodes l.nodes

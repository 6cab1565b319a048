use Rattle.std.proofs.Common.{◌≤◌}
use Rattle.grid_keeper.specs.Keeping.{WentAlong}
use Rattle.grid_keeper.specs.Settling.{IsReady, LacksReservations, QuitsOn}
use Rattle.grid_keeper.proofs.settling.free_all.Given as goal

abbrev pub invariant-loop : goal.invariant-loop
invariant-loop g l =
    WentAlong g.K.Keeper.disk l.fn.hub l.hub
    × (IsReady g.K.Keeper.disk l.hub l.left × LacksReservations l.left)
    × (g.K.Keeper.faults l.fn.hub.keeper ≤ g.K.Keeper.faults l.hub.keeper)
    × QuitsOn g.N.NodeLink.gives l.fn.nodes l.nodes

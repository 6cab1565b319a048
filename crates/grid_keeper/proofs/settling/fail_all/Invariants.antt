use Rattle.std.proofs.Common.{◌≤◌}
use Rattle.grid_keeper.specs.Keeping.{WentAlong}
use Rattle.grid_keeper.specs.Settling.{IsReady}
use Rattle.grid_keeper.proofs.settling.fail_all.Given as goal

abbrev pub invariant-loop : goal.invariant-loop
invariant-loop g l =
    WentAlong g.K.Keeper.disk l.fn.hub l.hub
    × IsReady g.K.Keeper.disk l.hub l.left
    × (g.K.Keeper.faults l.fn.hub.keeper ≤ g.K.Keeper.faults l.hub.keeper)

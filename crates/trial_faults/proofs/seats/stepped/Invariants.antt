use Rattle.hub_serving.specs.Tables.{IsSeated}
use Rattle.trial_faults.proofs.seats.stepped.Given as goal

abbrev pub invariant-loop : goal.invariant-loop
invariant-loop g l = IsSeated l.hub g.L.Line.view g.N.NodeLine.state g.N.NodeLine.gives g.N.NodeLine.asks g.C.Clock.gives g.C.Clock.view l.clock l.seat

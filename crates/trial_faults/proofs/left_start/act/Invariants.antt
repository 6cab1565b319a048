use Rattle.hub_serving.specs.Tables.{IsSeated}
use Rattle.hub_workers.specs.WorkSeats.{IsAtWork}
use Rattle.trial_faults.proofs.left_start.act.Given as goal

abbrev pub invariant-loop : goal.invariant-loop
invariant-loop g l = record {
  seated : IsSeated l.hub g.L.Line.view g.N.NodeLine.state g.N.NodeLine.gives g.N.NodeLine.asks g.C.Clock.gives g.C.Clock.view l.clock l.seat;
  at_work : IsAtWork l.hub g.N.NodeLine.state g.N.NodeLine.gives g.N.NodeLine.asks g.C.Clock.gives g.C.Clock.view l.clock l.worker;
}

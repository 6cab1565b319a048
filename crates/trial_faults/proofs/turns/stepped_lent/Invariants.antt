use Rattle.std.specs.Prelude.{IfSome}
use Rattle.hub_cell.specs.Passes.{IsOf}
use Rattle.hub_serving.specs.Tables.{IsSeated}
use Rattle.trial_faults.proofs.turns.stepped_lent.Given as goal

abbrev pub invariant-loop : goal.invariant-loop
invariant-loop g l = record {
  seated : IsSeated l.hub g.L.Line.view g.N.NodeLine.state g.N.NodeLine.gives g.N.NodeLine.asks g.C.Clock.gives g.C.Clock.view l.clock l.seat;
  reader : IfSome l.reader (IsOf l.hub);
}

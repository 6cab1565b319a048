use Rattle.std.specs.Prelude.{All}
use Rattle.hub_cell.specs.Passes.{IsOf}
use Rattle.hub_serving.specs.Tables.{IsSeated}
use Rattle.trial_faults.proofs.table.seated.Given as goal

abbrev pub invariant-loop-ends : goal.invariant-loop-ends
invariant-loop-ends g l = record {
  own : IsOf l.hub l.first;
  seated : All (IsSeated l.hub g.E.L.Line.view g.E.N.NodeLine.state g.E.N.NodeLine.gives g.E.N.NodeLine.asks g.C.Clock.gives g.C.Clock.view l.clock) l.seats.items;
}

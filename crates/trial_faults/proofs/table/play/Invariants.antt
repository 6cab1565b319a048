use Rattle.std.specs.Prelude.{All}
use Rattle.hub_serving.specs.Tables.{IsSeated}
use Rattle.trial_faults.proofs.table.play.Given as goal

abbrev pub invariant-loop-scene : goal.invariant-loop-scene
invariant-loop-scene g l = All (IsSeated l.hub g.E.L.Line.view g.E.N.NodeLine.state g.E.N.NodeLine.gives g.E.N.NodeLine.asks g.C.Clock.gives g.C.Clock.view l.clock) l.seats.items

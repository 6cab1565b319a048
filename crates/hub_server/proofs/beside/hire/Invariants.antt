use Rattle.std.proofs.Common.{All}
use Rattle.hub_cell.specs.Passes.{IsOf}
use Rattle.hub_server.specs.Hands.{IsHand}
use Rattle.hub_server.proofs.beside.hire.Given as goal

abbrev pub invariant-loop-clock : goal.invariant-loop-clock
invariant-loop-clock g l = record {
  passes : All (IsOf l.hub) l.passes.items;
  hands : All (IsHand l.hub g.G.N.NodeLine.state g.G.N.NodeLine.gives g.G.N.NodeLine.asks g.G.C.Clock.gives
      g.G.C.Clock.view) l.hands.items;
}

use Rattle.std.proofs.Common.{All}
use Rattle.hub_server.specs.Hands.{IsHand}
use Rattle.hub_server.proofs.beside.keep_going.Given as goal

abbrev pub invariant-loop : goal.invariant-loop
invariant-loop g l =
    All (IsHand l.hub g.G.N.NodeLine.state g.G.N.NodeLine.gives g.G.N.NodeLine.asks g.G.C.Clock.gives
    g.G.C.Clock.view) l.hands.items

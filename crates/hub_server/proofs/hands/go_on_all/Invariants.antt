use Rattle.std.proofs.Common.{All}
use Rattle.hub_server.specs.Hands.{IsHand}
use Rattle.hub_server.proofs.hands.go_on_all.Given as goal

abbrev pub invariant-loop-hand : goal.invariant-loop-hand
invariant-loop-hand g l =
    All (IsHand l.hub g.N.NodeLine.state g.N.NodeLine.gives g.N.NodeLine.asks g.C.Clock.gives g.C.Clock.view)
    l.hand-items

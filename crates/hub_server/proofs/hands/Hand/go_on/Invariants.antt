use Rattle.hub_server.specs.Hands.{IsHand}
use Rattle.hub_server.proofs.hands.Hand.go_on.Given as goal

abbrev pub invariant-loop : goal.invariant-loop
invariant-loop g l =
    IsHand l.hub g.N.NodeLine.state g.N.NodeLine.gives g.N.NodeLine.asks g.C.Clock.gives g.C.Clock.view l.self

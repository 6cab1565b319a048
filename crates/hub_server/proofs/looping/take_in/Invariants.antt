use Rattle.hub_server.specs.Crowds.{IsCrowd}
use Rattle.hub_server.proofs.looping.take_in.Given as goal

abbrev pub invariant-loop : goal.invariant-loop
invariant-loop g l = IsCrowd l.desk.hub.now g.G.L.Line.view g.G.N.NodeLine.state g.G.N.NodeLine.gives
    g.G.N.NodeLine.asks g.G.C.Clock.gives g.G.C.Clock.view l.crowd

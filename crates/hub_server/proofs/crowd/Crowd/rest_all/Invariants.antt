use Rattle.hub_cell.specs.declared.hub.SharedHub.{SharedHub}
use Rattle.hub_server.specs.Crowds.{IsCrowd}
use Rattle.hub_server.proofs.crowd.Crowd.rest_all.Given as goal

abbrev pub invariant-loop-place : goal.invariant-loop-place
invariant-loop-place g l = (hub : SharedHub) →
    IsCrowd hub g.L.Line.view g.N.NodeLine.state g.N.NodeLine.gives g.N.NodeLine.asks
    g.C.Clock.gives g.C.Clock.view l.fn.self →
    IsCrowd hub g.L.Line.view g.N.NodeLine.state g.N.NodeLine.gives g.N.NodeLine.asks
    g.C.Clock.gives g.C.Clock.view l.self

use Rattle.grid_attach.proofs.LookLemmas.{SoFar}
use Rattle.grid_attach.proofs.attaching.attach.Given as goal

abbrev pub invariant-loop : goal.invariant-loop
invariant-loop g l =
    SoFar g.N.NodeLink.gives g.C.Clock.gives g.C.Clock.view l.said l.counter l.initial.nodes l.initial.clock l.known l.nodes l.clock

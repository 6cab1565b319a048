use Rattle.loop_node.specs.Connections.{ServingOver, work}
use Rattle.loop_node.proofs.serving.serve_node.Given as goal

abbrev pub invariant-turns : goal.invariant-turns
invariant-turns g l =
    ServingOver l.fn.node l.node
    (g.L.Link.view l.fn.link)
    (g.L.Link.view l.link)
    l.incoming

abbrev pub decreases-turns : goal.decreases-turns
decreases-turns g l = work l.incoming

use Rattle.hub_conn.specs.Work.{work}
use Rattle.own_hub.specs.Own.{Goes}
use Rattle.local_driver.specs.World.{world_of}
use Rattle.local_driver.specs.Served.{outside_of}
use Rattle.local_driver.specs.Serving.{Serving, outlook_of}
use Rattle.local_driver.proofs.serving.serve_to_end.Given as goal

-- the connection stands for what was read, done and written in this call
abbrev pub invariant-turns : goal.invariant-turns
invariant-turns g l = record {
  serving : Serving g.N.NodeLink.gives g.C.Clock.gives l.own
      (outside_of (world_of (g.H.OwnHub.own.shown l.fn.hub) l.fn.nodes l.fn.clock (g.C.Clock.view l.fn.clock)) (g.L.Link.view l.fn.link)) l.talk
      (outside_of (world_of (g.H.OwnHub.own.shown l.hub) l.nodes l.clock (g.C.Clock.view l.clock)) (g.L.Link.view l.link));
  goes : Goes g.H.OwnHub.own l.fn.hub l.hub;
  same : g.L.Link.Same l.fn.link l.link;
}

-- less is left to do after each turn
abbrev pub decreases-turns : goal.decreases-turns
decreases-turns g l = work l.talk (outlook_of (world_of (g.H.OwnHub.own.shown l.hub) l.nodes l.clock (g.C.Clock.view l.clock)))

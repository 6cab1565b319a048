use Rattle.std.proofs.Common.{take}
use Rattle.own_hub.specs.Own.{Goes}
use Rattle.local_driver.specs.Beginning.{Beaten}
use Rattle.local_driver.specs.World.{WentBy, world_of}
use Rattle.local_driver.proofs.before.begin.Given as goal

-- the nodes so far gave their sign of life
abbrev pub invariant-loop-node : goal.invariant-loop-node
invariant-loop-node g l =
    WentBy g.N.NodeLink.gives g.C.Clock.gives (Beaten (take l.node-index l.own))
    (world_of (g.H.OwnHub.own.shown l.fn.hub) l.fn.nodes l.fn.clock (g.C.Clock.view l.fn.clock))
    (world_of (g.H.OwnHub.own.shown l.hub) l.nodes l.clock (g.C.Clock.view l.clock))
    × Goes g.H.OwnHub.own l.fn.hub l.hub

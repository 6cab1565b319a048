use Rattle.hub_core.specs.HubView.{past}
use Rattle.own_hub.specs.Own.{Goes}
use Rattle.local_driver.specs.Idles.{AllEnd, live_count}
use Rattle.local_driver.specs.World.{WentBy, world_of}
use Rattle.local_driver.proofs.before.end_all_idle.Given as goal

-- idle sessions were ended, and nothing else was done
abbrev pub invariant-looks : goal.invariant-looks
invariant-looks g l =
    WentBy g.N.NodeLink.gives g.C.Clock.gives AllEnd
    (world_of (g.H.OwnHub.own.shown l.fn.hub) l.fn.nodes l.fn.clock (g.C.Clock.view l.fn.clock))
    (world_of (g.H.OwnHub.own.shown l.hub) l.nodes l.clock (g.C.Clock.view l.clock))
    × Goes g.H.OwnHub.own l.fn.hub l.hub

-- one session fewer runs each time
abbrev pub decreases-looks : goal.decreases-looks
decreases-looks g l = live_count (past (g.H.OwnHub.own.shown l.hub))

use Rattle.hub_cell.specs.Passes.{IsOf, knows}
use Rattle.hub_workers.specs.Turns.{AllEnd, WentBy}
use Rattle.hub_workers.specs.World.{world_of}
use Rattle.hub_workers.proofs.ticking.end_all_idle.Given as goal

-- idle sessions were ended, and nothing else was done
abbrev pub invariant-loop : goal.invariant-loop
invariant-loop g l = record {
  own : IsOf l.hub l.pass;
  way : WentBy l.hub g.N.NodeLink.gives g.C.Clock.gives AllEnd
      (world_of (knows l.fn.pass) l.fn.nodes l.fn.clock (g.C.Clock.view l.fn.clock))
      (world_of (knows l.pass) l.nodes l.clock (g.C.Clock.view l.clock));
}

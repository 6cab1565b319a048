use Rattle.hub_cell.specs.Passes.{IsOf, knows}
use Rattle.hub_workers.specs.Turns.{Turns, WentBy, WorkerTurn}
use Rattle.hub_workers.specs.World.{world_of}
use Rattle.hub_workers.proofs.working.worker.Given as goal

-- so many turns were made
abbrev pub invariant-loop : goal.invariant-loop
invariant-loop g l = record {
  own : IsOf l.hub l.pass;
  way : WentBy l.hub g.N.NodeLink.gives g.C.Clock.gives (Turns WorkerTurn l.counter)
      (world_of (knows l.fn.pass) l.fn.nodes l.fn.clock (g.C.Clock.view l.fn.clock))
      (world_of (knows l.pass) l.nodes l.clock (g.C.Clock.view l.clock));
}

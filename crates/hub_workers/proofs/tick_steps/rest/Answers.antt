use Rattle.std.proofs.Common.{ap}
use Rattle.grid_outside.specs.Told.{untold}
use Rattle.hub_cell.specs.Passes.{knows}
use Rattle.hub_workers.specs.SharedClock.{SharedTells}
use Rattle.hub_workers.specs.World.{world_of}
use Rattle.hub_workers.proofs.TickStageLemmas.{tick_paused, tick_pauses}
use Rattle.hub_workers.proofs.tick_steps.rest.Goals as goal

pub returns-in-Some-clause-goes : goal.returns-in-Some-clause-goes
returns-in-Some-clause-goes g c hub =
    tick_pauses hub g.N.NodeLine.gives (SharedTells g.C.Clock.gives g.C.Clock.view) (g.N.NodeLine.asks c.args.bench.now.nodes) c.args.bench.now.moment (g.C.Clock.view c.wait.new.clock).moment
    c.in-Some.due _ _
    (ap (λ (m : g.row.C.Denot). world_of (knows c.args.bench.now.pass) (g.N.NodeLine.state c.args.bench.now.nodes) m (untold (g.C.Clock.view m).moment)) c.in-Some.ensures.rests.0)
    c.in-Some.ensures.rests.1 c.in-Some.ensures.rests.2

pub returns-in-None-clause-goes : goal.returns-in-None-clause-goes
returns-in-None-clause-goes g c hub =
    tick_paused hub g.N.NodeLine.gives (SharedTells g.C.Clock.gives g.C.Clock.view) (g.N.NodeLine.asks c.args.bench.now.nodes) c.args.bench.now.moment (g.C.Clock.view c.wait.new.clock).moment
    (knows c.args.bench.now.pass) (g.N.NodeLine.state c.args.bench.now.nodes) _ _ _ _ c.in-None.ensures.paused

use Rattle.hub_cell.specs.Passes.{knows}
use Rattle.hub_workers.specs.SharedClock.{SharedTells}
use Rattle.hub_workers.proofs.WorkStageLemmas.{start_hears, start_awaits}
use Rattle.hub_workers.proofs.work_steps.hear.Goals as goal

pub returns-in-Some-clause-goes : goal.returns-in-Some-clause-goes
returns-in-Some-clause-goes g c hub clock =
    start_hears hub g.N.NodeLine.gives (SharedTells g.C.Clock.gives g.C.Clock.view) (g.N.NodeLine.asks c.args.bench.now.nodes) c.args.bench.now.moment (g.C.Clock.view clock).moment
    (g.N.NodeLine.asks c.came.new.self) c.args.carry c.feed.new.self c.in-Some.came g.N.NodeLine.faults (knows c.args.bench.now.pass) (g.N.NodeLine.state c.args.bench.now.nodes) (g.N.NodeLine.state c.came.new.self) _ _
    c.feed.ensures c.in-Some.ensures.came c.in-Some.ensures.idle

pub returns-in-None-clause-goes : goal.returns-in-None-clause-goes
returns-in-None-clause-goes g c hub clock =
    start_awaits hub g.N.NodeLine.gives (SharedTells g.C.Clock.gives g.C.Clock.view) (g.N.NodeLine.asks c.args.bench.now.nodes) c.args.bench.now.moment (g.C.Clock.view clock).moment
    (g.N.NodeLine.asks c.came.new.self) c.args.carry (knows c.args.bench.now.pass) (g.N.NodeLine.state c.args.bench.now.nodes) (g.N.NodeLine.state c.came.new.self) _ _
    c.in-None.ensures.asks c.in-None.ensures.same

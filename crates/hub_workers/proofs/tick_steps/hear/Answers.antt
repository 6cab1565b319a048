use Rattle.hub_cell.specs.Passes.{knows}
use Rattle.hub_workers.specs.SharedClock.{SharedTells}
use Rattle.hub_workers.proofs.TickStageLemmas.{end_heard, end_awaited}
use Rattle.hub_workers.proofs.tick_steps.hear.Goals as goal

pub returns-in-Some-clause-goes : goal.returns-in-Some-clause-goes
returns-in-Some-clause-goes g c hub clock =
    end_heard hub g.N.NodeLine.gives (SharedTells g.C.Clock.gives g.C.Clock.view) (g.N.NodeLine.asks c.args.bench.now.nodes) c.args.bench.now.moment (g.C.Clock.view clock).moment
    (g.N.NodeLine.asks c.came.new.self) c.args.closing c.in-Some.came c.was_sent-sent.result g.N.NodeLine.faults (knows c.args.bench.now.pass) (g.N.NodeLine.state c.args.bench.now.nodes) (g.N.NodeLine.state c.came.new.self) _ _
    c.was_sent-sent.ensures c.in-Some.ensures.came c.in-Some.ensures.idle

pub returns-in-None-clause-goes : goal.returns-in-None-clause-goes
returns-in-None-clause-goes g c hub clock =
    end_awaited hub g.N.NodeLine.gives (SharedTells g.C.Clock.gives g.C.Clock.view) (g.N.NodeLine.asks c.args.bench.now.nodes) c.args.bench.now.moment (g.C.Clock.view clock).moment
    (g.N.NodeLine.asks c.came.new.self) c.args.closing (knows c.args.bench.now.pass) (g.N.NodeLine.state c.args.bench.now.nodes) (g.N.NodeLine.state c.came.new.self) _ _
    c.in-None.ensures.asks c.in-None.ensures.same

use Rattle.hub_cell.specs.Passes.{knows}
use Rattle.hub_workers.specs.SharedClock.{SharedTells}
use Rattle.hub_workers.proofs.TickStageLemmas.{end_freed, end_lacks, end_stops}
use Rattle.hub_workers.proofs.tick_steps.free.Goals as goal

pub returns-in-Ok-clause-goes : goal.returns-in-Ok-clause-goes
returns-in-Ok-clause-goes g c =
    end_freed c.args.hub.now g.N.NodeLine.gives (SharedTells g.C.Clock.gives g.C.Clock.view) (g.N.NodeLine.asks c.args.bench.now.nodes) c.args.bench.now.moment (g.C.Clock.view c.tell-now.new.clock).moment
    c.args.closing (knows c.args.bench.now.pass) (knows c.freed.new.pass) (g.N.NodeLine.state c.args.bench.now.nodes) c.tell-now.result.0 _ _ _ _ c.args.sent c.if-sent.true (c.in-Ok.ensures.serves c.tell-now.result.0) c.tell-now.ensures.ticks

pub returns-in-Ok-2-clause-goes : goal.returns-in-Ok-2-clause-goes
returns-in-Ok-2-clause-goes g c =
    end_lacks c.args.hub.now g.N.NodeLine.gives (SharedTells g.C.Clock.gives g.C.Clock.view) (g.N.NodeLine.asks c.args.bench.now.nodes) c.args.bench.now.moment (g.C.Clock.view c.tell-now.new.clock).moment
    c.args.closing (knows c.args.bench.now.pass) (knows c.freed.new.pass) (g.N.NodeLine.state c.args.bench.now.nodes) c.tell-now.result.0 _ _ _ _ c.args.sent c.if-sent.false (c.in-Ok-2.ensures.serves c.tell-now.result.0) c.tell-now.ensures.ticks

pub returns-in-Err-clause-goes : goal.returns-in-Err-clause-goes
returns-in-Err-clause-goes g c =
    end_stops c.args.hub.now g.N.NodeLine.gives (SharedTells g.C.Clock.gives g.C.Clock.view) (g.N.NodeLine.asks c.args.bench.now.nodes) c.args.bench.now.moment (g.C.Clock.view c.tell-now.new.clock).moment
    c.args.closing (knows c.args.bench.now.pass) (knows c.freed.new.pass) (g.N.NodeLine.state c.args.bench.now.nodes) c.tell-now.result.0 _ _ _ _ c.args.sent c.in-Err.stopped.spent c.in-Err.ensures.stopped.0 c.tell-now.ensures.ticks

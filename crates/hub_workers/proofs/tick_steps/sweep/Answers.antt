use Rattle.std.proofs.Common.{subst}
use Rattle.hub_cell.specs.declared.hub.CellFault.{CellFault}
use Rattle.hub_cell.specs.Passes.{IsFault, knows}
use Rattle.hub_workers.specs.SharedClock.{SharedTells}
use Rattle.hub_workers.proofs.TickStageLemmas.{sweep_done, sweep_no_room, sweep_stops}
use Rattle.hub_workers.proofs.tick_steps.sweep.Goals as goal

pub returns-in-Ok-clause-goes : goal.returns-in-Ok-clause-goes
returns-in-Ok-clause-goes g c =
    sweep_done c.args.hub.now g.N.NodeLine.gives (SharedTells g.C.Clock.gives g.C.Clock.view) (g.N.NodeLine.asks c.args.bench.now.nodes) c.args.bench.now.moment (g.C.Clock.view c.tell-at.new.clock).moment
    (knows c.args.bench.now.pass) (knows c.sweep.new.pass) (g.N.NodeLine.state c.args.bench.now.nodes) c.tell-at.result.0 _ _ _ _ _ c.in-Ok.ensures.serves c.tell-at.ensures.ticks

pub returns-in-Err-Memory-clause-goes : goal.returns-in-Err-Memory-clause-goes
returns-in-Err-Memory-clause-goes g c =
    let is = subst (λ (f : CellFault). IsFault c.args.hub.now (knows c.args.bench.now.pass) (knows c.sweep.new.pass) f) c.in-Err-Memory.field-0-is c.in-Err-Memory.ensures.spent in
    sweep_no_room c.args.hub.now g.N.NodeLine.gives (SharedTells g.C.Clock.gives g.C.Clock.view) (g.N.NodeLine.asks c.args.bench.now.nodes) c.args.bench.now.moment (g.C.Clock.view c.tell-at.new.clock).moment
    (knows c.args.bench.now.pass) (knows c.sweep.new.pass) (g.N.NodeLine.state c.args.bench.now.nodes) c.tell-at.result.0 _ _ _ _ is c.tell-at.ensures.ticks

pub returns-in-Err-Spent-clause-goes : goal.returns-in-Err-Spent-clause-goes
returns-in-Err-Spent-clause-goes g c =
    let is = subst (λ (f : CellFault). IsFault c.args.hub.now (knows c.args.bench.now.pass) (knows c.sweep.new.pass) f) c.in-Err-Spent.field-0-is c.in-Err-Spent.ensures.spent in
    sweep_stops c.args.hub.now g.N.NodeLine.gives (SharedTells g.C.Clock.gives g.C.Clock.view) (g.N.NodeLine.asks c.args.bench.now.nodes) c.args.bench.now.moment (g.C.Clock.view c.tell-at.new.clock).moment
    (knows c.args.bench.now.pass) (knows c.sweep.new.pass) (g.N.NodeLine.state c.args.bench.now.nodes) c.tell-at.result.0 _ _ _ _ c.in-Err-Spent.spent is c.tell-at.ensures.ticks

use Rattle.std.proofs.Common.{subst}
use Rattle.grid_types.specs.Calls.{Call}
use Rattle.hub_core.specs.declared.answers.Dispatched.{Dispatched}
use Rattle.hub_core.specs.Replies.{dispatched_reply}
use Rattle.hub_cell.specs.Passes.{config_of, knows}
use Rattle.hub_cell.specs.Shared.{SharedServes}
use Rattle.hub_workers.specs.SharedClock.{SharedTells}
use Rattle.hub_workers.proofs.WorkStageLemmas.{seek_lacks, seek_nothing, seek_spent, seek_starts}
use Rattle.hub_workers.proofs.work_steps.seek.Goals as goal

pub returns-in-Ok-Assigned-clause-goes : goal.returns-in-Ok-Assigned-clause-goes
returns-in-Ok-Assigned-clause-goes g c =
    let v = knows c.args.bench.now.pass in
    let w = knows c.dispatch.new.pass in
    let serves = subst (λ (a : Dispatched). SharedServes (config_of c.args.hub.now) v Call.dispatch c.tell-at.result.0 (dispatched_reply a) w) c.in-Ok-Assigned.field-0-is c.in-Ok-Assigned.ensures.serves in
    seek_starts c.args.hub.now g.N.NodeLine.gives (SharedTells g.C.Clock.gives g.C.Clock.view) (g.N.NodeLine.asks c.args.bench.now.nodes) c.args.bench.now.moment (g.C.Clock.view c.tell-at.new.clock).moment
    v w (g.N.NodeLine.state c.args.bench.now.nodes) c.tell-at.result.0 _ _ _ _ c.in-Ok-Assigned.reservation c.new.result serves c.tell-at.ensures.ticks c.new.ensures

pub returns-in-Ok-Nothing-clause-goes : goal.returns-in-Ok-Nothing-clause-goes
returns-in-Ok-Nothing-clause-goes g c =
    let v = knows c.args.bench.now.pass in
    let w = knows c.dispatch.new.pass in
    let serves = subst (λ (a : Dispatched). SharedServes (config_of c.args.hub.now) v Call.dispatch c.tell-at.result.0 (dispatched_reply a) w) c.in-Ok-Nothing.field-0-is c.in-Ok-Nothing.ensures.serves in
    seek_nothing c.args.hub.now g.N.NodeLine.gives (SharedTells g.C.Clock.gives g.C.Clock.view) (g.N.NodeLine.asks c.args.bench.now.nodes) c.args.bench.now.moment (g.C.Clock.view c.tell-at.new.clock).moment
    v w (g.N.NodeLine.state c.args.bench.now.nodes) c.tell-at.result.0 _ _ _ _ serves c.tell-at.ensures.ticks

pub returns-in-Ok-Memory-clause-goes : goal.returns-in-Ok-Memory-clause-goes
returns-in-Ok-Memory-clause-goes g c =
    let v = knows c.args.bench.now.pass in
    let w = knows c.dispatch.new.pass in
    let serves = subst (λ (a : Dispatched). SharedServes (config_of c.args.hub.now) v Call.dispatch c.tell-at.result.0 (dispatched_reply a) w) c.in-Ok-Memory.field-0-is c.in-Ok-Memory.ensures.serves in
    seek_lacks c.args.hub.now g.N.NodeLine.gives (SharedTells g.C.Clock.gives g.C.Clock.view) (g.N.NodeLine.asks c.args.bench.now.nodes) c.args.bench.now.moment (g.C.Clock.view c.tell-at.new.clock).moment
    v w (g.N.NodeLine.state c.args.bench.now.nodes) c.tell-at.result.0 _ _ _ _ serves c.tell-at.ensures.ticks

pub returns-in-Err-clause-goes : goal.returns-in-Err-clause-goes
returns-in-Err-clause-goes g c =
    seek_spent c.args.hub.now g.N.NodeLine.gives (SharedTells g.C.Clock.gives g.C.Clock.view) (g.N.NodeLine.asks c.args.bench.now.nodes) c.args.bench.now.moment (g.C.Clock.view c.tell-at.new.clock).moment
    (knows c.args.bench.now.pass) (knows c.dispatch.new.pass) (g.N.NodeLine.state c.args.bench.now.nodes) c.tell-at.result.0 _ _ _ _ c.in-Err.spent c.in-Err.ensures.spent c.tell-at.ensures.ticks

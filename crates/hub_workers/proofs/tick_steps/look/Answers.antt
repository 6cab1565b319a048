use Rattle.std.proofs.Common.{subst}
use Rattle.grid_types.specs.Calls.{Call}
use Rattle.hub_core.specs.declared.answers.Expiring.{Expiring}
use Rattle.hub_core.specs.Replies.{expiring_reply}
use Rattle.hub_cell.specs.Passes.{config_of, knows}
use Rattle.hub_cell.specs.Shared.{SharedServes}
use Rattle.hub_workers.specs.SharedClock.{SharedTells}
use Rattle.hub_workers.proofs.TickStageLemmas.{look_ends, look_fails, look_over}
use Rattle.hub_workers.proofs.tick_steps.look.Goals as goal

pub returns-in-Ok-Expired-clause-goes : goal.returns-in-Ok-Expired-clause-goes
returns-in-Ok-Expired-clause-goes g c =
    let serves = subst (λ (a : Expiring). SharedServes (config_of c.args.hub.now) (knows c.args.bench.now.pass) Call.expire c.tell-at.result.0 (expiring_reply a) (knows c.expire.new.pass)) c.in-Ok-Expired.field-0-is c.in-Ok-Expired.ensures.serves in
    look_ends c.args.hub.now g.N.NodeLine.gives (SharedTells g.C.Clock.gives g.C.Clock.view) (g.N.NodeLine.asks c.args.bench.now.nodes) c.args.bench.now.moment (g.C.Clock.view c.tell-at.new.clock).moment
    (g.N.NodeLine.asks c.begin_to_end-next.new.nodes) (knows c.args.bench.now.pass) (knows c.expire.new.pass) (g.N.NodeLine.state c.args.bench.now.nodes) (g.N.NodeLine.state c.begin_to_end-next.new.nodes) c.tell-at.result.0 _ _ _ _
    c.in-Ok-Expired.closing c.begin_to_end-next.result serves c.tell-at.ensures.ticks c.begin_to_end-next.ensures.begins c.begin_to_end-next.ensures.same

pub returns-in-Ok-Nothing-clause-goes : goal.returns-in-Ok-Nothing-clause-goes
returns-in-Ok-Nothing-clause-goes g c =
    let serves = subst (λ (a : Expiring). SharedServes (config_of c.args.hub.now) (knows c.args.bench.now.pass) Call.expire c.tell-at.result.0 (expiring_reply a) (knows c.expire.new.pass)) c.in-Ok-Nothing.field-0-is c.in-Ok-Nothing.ensures.serves in
    look_over c.args.hub.now g.N.NodeLine.gives (SharedTells g.C.Clock.gives g.C.Clock.view) (g.N.NodeLine.asks c.args.bench.now.nodes) c.args.bench.now.moment (g.C.Clock.view c.tell-at.new.clock).moment
    (knows c.args.bench.now.pass) (knows c.expire.new.pass) (g.N.NodeLine.state c.args.bench.now.nodes) c.tell-at.result.0 _ _ _ _ serves c.tell-at.ensures.ticks

pub returns-in-Err-clause-goes : goal.returns-in-Err-clause-goes
returns-in-Err-clause-goes g c =
    look_fails c.args.hub.now g.N.NodeLine.gives (SharedTells g.C.Clock.gives g.C.Clock.view) (g.N.NodeLine.asks c.args.bench.now.nodes) c.args.bench.now.moment (g.C.Clock.view c.tell-at.new.clock).moment
    (knows c.args.bench.now.pass) (knows c.expire.new.pass) (g.N.NodeLine.state c.args.bench.now.nodes) c.tell-at.result.0 _ _ _ _ c.in-Err.fault c.unanswered.result c.unanswered.ensures c.in-Err.ensures.spent c.tell-at.ensures.ticks

use Rattle.std.proofs.Common.{◌∙◌, Some, refl}
use Rattle.grid_types.specs.Calls.{Call, Reply}
use Rattle.hub_core.specs.Replies.{binding_reply, failing_reply}
use Rattle.hub_cell.specs.Passes.{knows}
use Rattle.node_client.specs.declared.wants.CarryAnswer.TheVariants as answers
use Rattle.hub_workers.specs.SharedClock.{SharedTells, not_asked}
use Rattle.node_client.specs.TurnLaws.{bind_wanted, fail_wanted, free_wanted, told_bind, told_fail, told_free}
use Rattle.hub_workers.proofs.TurnLemmas.{good_bind, good_fail, good_freed}
use Rattle.hub_workers.proofs.WorkStageLemmas.{start_asks, start_calls, start_over, start_stops}
use Rattle.hub_workers.proofs.work_steps.start_on.Goals as goal

pub returns-in-Node-clause-goes : goal.returns-in-Node-clause-goes
returns-in-Node-clause-goes g c =
    start_asks c.args.hub.now g.N.NodeLine.gives (SharedTells g.C.Clock.gives g.C.Clock.view) (g.N.NodeLine.asks c.args.bench.now.nodes) c.args.bench.now.moment (g.C.Clock.view c.args.clock.now).moment
    (g.N.NodeLine.asks c.ask.new.self) c.args.carry c.next.result c.in-Node.address c.in-Node.request (knows c.args.bench.now.pass) (g.N.NodeLine.state c.args.bench.now.nodes) (g.N.NodeLine.state c.ask.new.self) _ _
    c.next.ensures c.in-Node.is c.ask.ensures.asks (c.ask.ensures.same ∙ c.allow.ensures.same)

pub returns-in-Ok-clause-goes : goal.returns-in-Ok-clause-goes
returns-in-Ok-clause-goes g c =
    let took = c.take_bind-reservation.result in
    let b = c.in-Ok.binding in
    let v = knows c.args.bench.now.pass in
    let w = knows c.bind.new.pass in
    start_calls c.args.hub.now g.N.NodeLine.gives (SharedTells g.C.Clock.gives g.C.Clock.view) (g.N.NodeLine.asks c.args.bench.now.nodes) c.args.bench.now.moment (g.C.Clock.view c.tell-at.new.clock).moment
    c.args.carry c.take_bind-reservation.new.self c.feed.new.self (Call.bind took.0 took.1 took.2) c.tell-at.result.0 (answers.Bound b) (binding_reply b)
    v w (g.N.NodeLine.state c.args.bench.now.nodes) _ _ _ _
    (told_bind c.args.carry c.take_bind-reservation.new.self took.0 took.1 took.2 b c.take_bind-reservation.ensures.takes c.take_bind-reservation.ensures.call c.in-Ok.ensures.back)
    c.feed.ensures (λ x. refl) c.in-Ok.ensures.serves (good_bind c.args.hub.now v w took.0 took.1 took.2 c.tell-at.result.0 b c.in-Ok.ensures.serves) c.tell-at.ensures.ticks

pub returns-in-Err-clause-goes : goal.returns-in-Err-clause-goes
returns-in-Err-clause-goes g c =
    let took = c.take_bind-reservation.result in
    start_stops c.args.hub.now g.N.NodeLine.gives (SharedTells g.C.Clock.gives g.C.Clock.view) (g.N.NodeLine.asks c.args.bench.now.nodes) c.args.bench.now.moment (g.C.Clock.view c.tell-at.new.clock).moment
    c.args.carry (Call.bind took.0 took.1 took.2) c.tell-at.result.0 c.in-Err.stopped.spent (knows c.args.bench.now.pass) (knows c.bind.new.pass) (g.N.NodeLine.state c.args.bench.now.nodes) _ _ _ _
    (bind_wanted c.args.carry took.0 took.1 took.2 c.take_bind-reservation.ensures.call) c.in-Err.ensures.stopped.0 c.tell-at.ensures.ticks

pub returns-in-Ok-fail-clause-goes : goal.returns-in-Ok-fail-clause-goes
returns-in-Ok-fail-clause-goes g c =
    let took = c.take_fail-reservation.result in
    let f = c.in-Ok-fail.failing in
    let v = knows c.args.bench.now.pass in
    let w = knows c.fail.new.pass in
    start_calls c.args.hub.now g.N.NodeLine.gives (SharedTells g.C.Clock.gives g.C.Clock.view) (g.N.NodeLine.asks c.args.bench.now.nodes) c.args.bench.now.moment (g.C.Clock.view c.tell-at-in-Fail.new.clock).moment
    c.args.carry c.take_fail-reservation.new.self c.feed-in-Ok-fail.new.self (Call.fail took.0 took.1) c.tell-at-in-Fail.result.0 (answers.Failed f) (failing_reply f)
    v w (g.N.NodeLine.state c.args.bench.now.nodes) _ _ _ _
    (told_fail c.args.carry c.take_fail-reservation.new.self took.0 took.1 f c.take_fail-reservation.ensures.takes c.take_fail-reservation.ensures.call)
    c.feed-in-Ok-fail.ensures (λ x. refl) c.in-Ok-fail.ensures.serves (good_fail v w f) c.tell-at-in-Fail.ensures.ticks

pub returns-in-Err-fail-clause-goes : goal.returns-in-Err-fail-clause-goes
returns-in-Err-fail-clause-goes g c =
    let took = c.take_fail-reservation.result in
    start_stops c.args.hub.now g.N.NodeLine.gives (SharedTells g.C.Clock.gives g.C.Clock.view) (g.N.NodeLine.asks c.args.bench.now.nodes) c.args.bench.now.moment (g.C.Clock.view c.tell-at-in-Fail.new.clock).moment
    c.args.carry (Call.fail took.0 took.1) c.tell-at-in-Fail.result.0 c.in-Err-fail.stopped.spent (knows c.args.bench.now.pass) (knows c.fail.new.pass) (g.N.NodeLine.state c.args.bench.now.nodes) _ _ _ _
    (fail_wanted c.args.carry took.0 took.1 c.take_fail-reservation.ensures.call) c.in-Err-fail.ensures.stopped.0 c.tell-at-in-Fail.ensures.ticks

pub returns-in-Ok-freed-clause-goes : goal.returns-in-Ok-freed-clause-goes
returns-in-Ok-freed-clause-goes g c =
    let closing = c.take_closing-closing.result in
    let v = knows c.args.bench.now.pass in
    let w = knows c.freed.new.pass in
    start_calls c.args.hub.now g.N.NodeLine.gives (SharedTells g.C.Clock.gives g.C.Clock.view) (g.N.NodeLine.asks c.args.bench.now.nodes) c.args.bench.now.moment (g.C.Clock.view c.tell-now.new.clock).moment
    c.args.carry c.take_closing-closing.new.self c.feed-in-Ok-freed.new.self (Call.freed closing) c.tell-now.result.0 answers.Freed (Some Reply.is_freed)
    v w (g.N.NodeLine.state c.args.bench.now.nodes) _ _ _ _
    (told_free c.args.carry c.take_closing-closing.new.self closing c.take_closing-closing.ensures.takes c.take_closing-closing.ensures.call)
    c.feed-in-Ok-freed.ensures (λ x. refl) (c.in-Ok-freed.ensures.serves c.tell-now.result.0) (good_freed v w) c.tell-now.ensures.ticks

pub returns-in-Err-freed-clause-goes : goal.returns-in-Err-freed-clause-goes
returns-in-Err-freed-clause-goes g c =
    let closing = c.take_closing-closing.result in
    start_stops c.args.hub.now g.N.NodeLine.gives (SharedTells g.C.Clock.gives g.C.Clock.view) (g.N.NodeLine.asks c.args.bench.now.nodes) c.args.bench.now.moment (g.C.Clock.view c.tell-now.new.clock).moment
    c.args.carry (Call.freed closing) c.tell-now.result.0 c.in-Err-freed.stopped.spent (knows c.args.bench.now.pass) (knows c.freed.new.pass) (g.N.NodeLine.state c.args.bench.now.nodes) _ _ _ _
    (free_wanted c.args.carry closing c.take_closing-closing.ensures.call) c.in-Err-freed.ensures.stopped.0 c.tell-now.ensures.ticks

pub returns-in-Done-clause-goes : goal.returns-in-Done-clause-goes
returns-in-Done-clause-goes g c =
    start_over c.args.hub.now g.N.NodeLine.gives (SharedTells g.C.Clock.gives g.C.Clock.view) (g.N.NodeLine.asks c.args.bench.now.nodes) c.args.bench.now.moment (g.C.Clock.view c.args.clock.now).moment
    c.args.carry c.next.result c.in-Done.field-0 _ c.next.ensures c.in-Done.is

pub returns-in-Node-clause-asked : goal.returns-in-Node-clause-asked
returns-in-Node-clause-asked g c = not_asked

pub returns-in-Done-clause-asked : goal.returns-in-Done-clause-asked
returns-in-Done-clause-asked g c = not_asked

use Rattle.std.proofs.Common.{Some, refl}
use Rattle.grid_types.specs.Calls.{Call, Reply}
use Rattle.hub_core.specs.Replies.{binding_reply, failing_reply}
use Rattle.hub_cell.specs.Passes.{knows}
use Rattle.node_client.specs.ClockSteps.{ticked}
use Rattle.node_client.specs.declared.wants.CarryAnswer.TheVariants as answers
use Rattle.node_client.specs.TurnLaws.{bind_wanted, fail_wanted, free_wanted, told_bind, told_fail, told_free}
use Rattle.hub_workers.proofs.TurnLemmas.{call_turn, good_bind, good_fail, good_freed, node_turn, spent_turn}
use Rattle.hub_workers.proofs.starting.turn.Goals as goal

pub returns-in-Node-clause-turned : goal.returns-in-Node-clause-turned
returns-in-Node-clause-turned g c =
    node_turn c.args.hub.now g.N.NodeLink.gives g.C.Clock.gives c.args.carry.now c.feed.new.self c.next.result c.in-Node.address c.in-Node.request c.exchange-came.result (knows c.args.pass.now)
    c.args.nodes.now c.exchange-came.new.self _ _ c.next.ensures c.in-Node.is c.feed.ensures c.exchange-came.ensures.gives

pub returns-in-Ok-clause-turned : goal.returns-in-Ok-clause-turned
returns-in-Ok-clause-turned g c =
    let took = c.take_bind-reservation.result in
    let b = c.in-Ok.binding in
    let v = knows c.args.pass.now in
    let w = knows c.bind.new.pass in
    call_turn c.args.hub.now g.N.NodeLink.gives g.C.Clock.gives c.args.carry.now c.take_bind-reservation.new.self c.feed-in-Ok.new.self (Call.bind took.0 took.1 took.2) c.now-at.result.0 (answers.Bound b) (binding_reply b)
    v w c.args.nodes.now _ _ _ _
    (told_bind c.args.carry.now c.take_bind-reservation.new.self took.0 took.1 took.2 b c.take_bind-reservation.ensures.takes c.take_bind-reservation.ensures.call c.in-Ok.ensures.back)
    c.feed-in-Ok.ensures (λ x. refl) c.in-Ok.ensures.serves
    (good_bind c.args.hub.now v w took.0 took.1 took.2 c.now-at.result.0 b c.in-Ok.ensures.serves)
    (ticked _ _ _ _ _ _ c.now-at.ensures.gives c.now-at.ensures.value c.now-at.ensures.later c.now-at.ensures.still)

pub returns-in-Err-clause-turned : goal.returns-in-Err-clause-turned
returns-in-Err-clause-turned g c =
    let took = c.take_bind-reservation.result in
    spent_turn c.args.hub.now g.N.NodeLink.gives g.C.Clock.gives c.args.carry.now c.take_bind-reservation.new.self (Call.bind took.0 took.1 took.2) c.now-at.result.0 c.in-Err.stopped.spent
    (knows c.args.pass.now) (knows c.bind.new.pass) c.args.nodes.now _ _ _ _
    (bind_wanted c.args.carry.now took.0 took.1 took.2 c.take_bind-reservation.ensures.call) c.in-Err.ensures.stopped.0
    (ticked _ _ _ _ _ _ c.now-at.ensures.gives c.now-at.ensures.value c.now-at.ensures.later c.now-at.ensures.still)

pub returns-in-Ok-fail-clause-turned : goal.returns-in-Ok-fail-clause-turned
returns-in-Ok-fail-clause-turned g c =
    let took = c.take_fail-reservation.result in
    let f = c.in-Ok-fail.failing in
    let v = knows c.args.pass.now in
    let w = knows c.fail.new.pass in
    call_turn c.args.hub.now g.N.NodeLink.gives g.C.Clock.gives c.args.carry.now c.take_fail-reservation.new.self c.feed-in-Ok-fail.new.self (Call.fail took.0 took.1) c.now-at-in-Fail.result.0 (answers.Failed f)
    (failing_reply f) v w c.args.nodes.now _ _ _ _
    (told_fail c.args.carry.now c.take_fail-reservation.new.self took.0 took.1 f c.take_fail-reservation.ensures.takes c.take_fail-reservation.ensures.call)
    c.feed-in-Ok-fail.ensures (λ x. refl) c.in-Ok-fail.ensures.serves (good_fail v w f)
    (ticked _ _ _ _ _ _ c.now-at-in-Fail.ensures.gives c.now-at-in-Fail.ensures.value c.now-at-in-Fail.ensures.later c.now-at-in-Fail.ensures.still)

pub returns-in-Err-fail-clause-turned : goal.returns-in-Err-fail-clause-turned
returns-in-Err-fail-clause-turned g c =
    let took = c.take_fail-reservation.result in
    spent_turn c.args.hub.now g.N.NodeLink.gives g.C.Clock.gives c.args.carry.now c.take_fail-reservation.new.self (Call.fail took.0 took.1) c.now-at-in-Fail.result.0 c.in-Err-fail.stopped.spent
    (knows c.args.pass.now) (knows c.fail.new.pass) c.args.nodes.now _ _ _ _
    (fail_wanted c.args.carry.now took.0 took.1 c.take_fail-reservation.ensures.call) c.in-Err-fail.ensures.stopped.0
    (ticked _ _ _ _ _ _ c.now-at-in-Fail.ensures.gives c.now-at-in-Fail.ensures.value c.now-at-in-Fail.ensures.later c.now-at-in-Fail.ensures.still)

pub returns-in-Ok-freed-clause-turned : goal.returns-in-Ok-freed-clause-turned
returns-in-Ok-freed-clause-turned g c =
    let closing = c.take_closing-closing.result in
    let v = knows c.args.pass.now in
    let w = knows c.freed.new.pass in
    call_turn c.args.hub.now g.N.NodeLink.gives g.C.Clock.gives c.args.carry.now c.take_closing-closing.new.self c.feed-in-Ok-freed.new.self (Call.freed closing) c.now-now.result.0 answers.Freed
    (Some Reply.is_freed) v w c.args.nodes.now _ _ _ _
    (told_free c.args.carry.now c.take_closing-closing.new.self closing c.take_closing-closing.ensures.takes c.take_closing-closing.ensures.call)
    c.feed-in-Ok-freed.ensures (λ x. refl) (c.in-Ok-freed.ensures.serves c.now-now.result.0) (good_freed v w)
    (ticked _ _ _ _ _ _ c.now-now.ensures.gives c.now-now.ensures.value c.now-now.ensures.later c.now-now.ensures.still)

pub returns-in-Err-freed-clause-turned : goal.returns-in-Err-freed-clause-turned
returns-in-Err-freed-clause-turned g c =
    let closing = c.take_closing-closing.result in
    spent_turn c.args.hub.now g.N.NodeLink.gives g.C.Clock.gives c.args.carry.now c.take_closing-closing.new.self (Call.freed closing) c.now-now.result.0 c.in-Err-freed.stopped.spent
    (knows c.args.pass.now) (knows c.freed.new.pass) c.args.nodes.now _ _ _ _
    (free_wanted c.args.carry.now closing c.take_closing-closing.ensures.call) c.in-Err-freed.ensures.stopped.0
    (ticked _ _ _ _ _ _ c.now-now.ensures.gives c.now-now.ensures.value c.now-now.ensures.later c.now-now.ensures.still)

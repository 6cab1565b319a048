use Rattle.std.proofs.Common.{Some, refl, arith}
use Rattle.grid_types.specs.Calls.{Call, Reply}
use Rattle.hub_core.specs.Replies.{binding_reply, failing_reply}
use Rattle.hub_core.specs.HubView.{past}
use Rattle.node_client.specs.declared.wants.CarryAnswer.TheVariants as answers
use Rattle.node_client.specs.TurnLaws.{told_bind, told_fail, told_free}
use Rattle.trial_core.proofs.TurnLemmas.{node_turn, call_turn, good_bind, good_fail, good_freed}
use Rattle.trial_core.proofs.starts.driver.turn.Goals as goal

pub returns-in-Node-clause-turned : goal.returns-in-Node-clause-turned
returns-in-Node-clause-turned g c =
    node_turn g.N.NodeLink.gives c.args.carry.now c.feed.new.self c.next.result c.in-Node.address c.in-Node.request c.exchange-came.result c.args.hub.now c.args.nodes.now c.exchange-came.new.self _
    c.next.ensures c.in-Node.is c.feed.ensures c.exchange-came.ensures.gives

pub returns-in-Bind-clause-turned : goal.returns-in-Bind-clause-turned
returns-in-Bind-clause-turned g c =
    let took = c.take_bind-reservation.result in
    let b = c.bind-binding.result in
    call_turn g.N.NodeLink.gives c.args.carry.now c.take_bind-reservation.new.self c.feed-in-Bind.new.self (Call.bind took.0 took.1 took.2) c.now-at.result.0 (answers.Bound b) (binding_reply b)
    c.args.hub.now c.bind-binding.new.self c.args.nodes.now _ _
    (told_bind c.args.carry.now c.take_bind-reservation.new.self took.0 took.1 took.2 b c.take_bind-reservation.ensures.takes c.take_bind-reservation.ensures.call c.bind-binding.ensures.back)
    c.feed-in-Bind.ensures (λ w. refl) c.bind-binding.ensures.serves
    (good_bind c.args.hub.now c.bind-binding.new.self took.0 took.1 took.2 c.now-at.result.0 b c.bind-binding.ensures.serves)
    (omega arith) (omega arith) (λ k. refl)

pub returns-in-Fail-clause-turned : goal.returns-in-Fail-clause-turned
returns-in-Fail-clause-turned g c =
    let took = c.take_fail-reservation.result in
    let f = c.fail-failing.result in
    call_turn g.N.NodeLink.gives c.args.carry.now c.take_fail-reservation.new.self c.feed-in-Fail.new.self (Call.fail took.0 took.1) c.now-at-in-Fail.result.0 (answers.Failed f) (failing_reply f)
    c.args.hub.now c.fail-failing.new.self c.args.nodes.now _ _
    (told_fail c.args.carry.now c.take_fail-reservation.new.self took.0 took.1 f c.take_fail-reservation.ensures.takes c.take_fail-reservation.ensures.call)
    c.feed-in-Fail.ensures (λ w. refl) c.fail-failing.ensures
    (good_fail (past c.args.hub.now) (past c.fail-failing.new.self) f)
    (omega arith) (omega arith) (λ k. refl)

pub returns-in-Freed-clause-turned : goal.returns-in-Freed-clause-turned
returns-in-Freed-clause-turned g c =
    let closing = c.take_closing-closing.result in
    call_turn g.N.NodeLink.gives c.args.carry.now c.take_closing-closing.new.self c.feed-in-Freed.new.self (Call.freed closing) c.now-now.result.0 answers.Freed (Some Reply.is_freed)
    c.args.hub.now c.freed.new.self c.args.nodes.now _ _
    (told_free c.args.carry.now c.take_closing-closing.new.self closing c.take_closing-closing.ensures.takes c.take_closing-closing.ensures.call)
    c.feed-in-Freed.ensures (λ w. refl) (c.freed.ensures c.now-now.result.0)
    (good_freed (past c.args.hub.now) (past c.freed.new.self))
    (omega arith) (omega arith) (λ k. refl)

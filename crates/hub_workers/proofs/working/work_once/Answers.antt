use Rattle.std.proofs.Common.{subst}
use Rattle.grid_types.specs.Calls.{Call}
use Rattle.hub_core.specs.declared.answers.Dispatched.{Dispatched}
use Rattle.hub_core.specs.Replies.{dispatched_reply}
use Rattle.hub_cell.specs.Passes.{config_of, knows}
use Rattle.hub_cell.specs.Shared.{SharedServes}
use Rattle.node_client.specs.ClockSteps.{ticked}
use Rattle.hub_workers.specs.Turns.{WorkerSpent, dispatch_spent}
use Rattle.hub_workers.proofs.WorkLemmas.{assigned_spent, assigned_turn, lacking_turn, nothing_turn, one_spent}
use Rattle.hub_workers.proofs.working.work_once.Goals as goal

pub returns-in-Ok-Nothing-clause-turned : goal.returns-in-Ok-Nothing-clause-turned
returns-in-Ok-Nothing-clause-turned g c =
    let v = knows c.args.pass.now in
    let w = knows c.dispatch.new.pass in
    let serves = subst (λ (a : Dispatched). SharedServes (config_of c.args.hub.now) v Call.dispatch c.now-at.result.0 (dispatched_reply a) w) c.in-Ok-Nothing.field-0-is c.in-Ok-Nothing.ensures.serves in
    nothing_turn c.args.hub.now g.N.NodeLink.gives g.C.Clock.gives v w c.args.nodes.now c.now-at.result.0 _ _ _ _ _ _ serves
    (ticked _ _ _ _ _ _ c.now-at.ensures.gives c.now-at.ensures.value c.now-at.ensures.later c.now-at.ensures.still)
    (record { at = c.pause.result.0; gave = c.pause.ensures.gives; long_enough = c.pause.ensures.long_enough; told = c.pause.ensures.told })

pub returns-in-Ok-Memory-clause-turned : goal.returns-in-Ok-Memory-clause-turned
returns-in-Ok-Memory-clause-turned g c =
    let v = knows c.args.pass.now in
    let w = knows c.dispatch.new.pass in
    let serves = subst (λ (a : Dispatched). SharedServes (config_of c.args.hub.now) v Call.dispatch c.now-at.result.0 (dispatched_reply a) w) c.in-Ok-Memory.field-0-is c.in-Ok-Memory.ensures.serves in
    lacking_turn c.args.hub.now g.N.NodeLink.gives g.C.Clock.gives v w c.args.nodes.now c.now-at.result.0 _ _ _ _ _ _ serves
    (ticked _ _ _ _ _ _ c.now-at.ensures.gives c.now-at.ensures.value c.now-at.ensures.later c.now-at.ensures.still)
    (record { at = c.pause-in-Ok-Memory.result.0; gave = c.pause-in-Ok-Memory.ensures.gives; long_enough = c.pause-in-Ok-Memory.ensures.long_enough; told = c.pause-in-Ok-Memory.ensures.told })

pub returns-in-Err-clause-turned : goal.returns-in-Err-clause-turned
returns-in-Err-clause-turned g c =
    one_spent c.args.hub.now g.N.NodeLink.gives g.C.Clock.gives WorkerSpent (knows c.args.pass.now) (knows c.dispatch.new.pass) c.args.nodes.now Call.dispatch c.now-at.result.0 c.in-Err.spent _ _ _ _
    (dispatch_spent c.now-at.result.0) c.in-Err.ensures.spent
    (ticked _ _ _ _ _ _ c.now-at.ensures.gives c.now-at.ensures.value c.now-at.ensures.later c.now-at.ensures.still)

pub returns-in-Ok-clause-turned : goal.returns-in-Ok-clause-turned
returns-in-Ok-clause-turned g c =
    let v = knows c.args.pass.now in
    let w = knows c.dispatch.new.pass in
    let serves = subst (λ (a : Dispatched). SharedServes (config_of c.args.hub.now) v Call.dispatch c.now-at.result.0 (dispatched_reply a) w) c.in-Ok-Assigned.field-0-is c.in-Ok-Assigned.ensures.serves in
    assigned_turn c.args.hub.now g.N.NodeLink.gives g.C.Clock.gives v w c.args.nodes.now c.now-at.result.0 _ _ _ _ c.in-Ok-Assigned.reservation c.in-Ok.field-0 _ serves
    (ticked _ _ _ _ _ _ c.now-at.ensures.gives c.now-at.ensures.value c.now-at.ensures.later c.now-at.ensures.still) c.in-Ok.ensures.carried

pub returns-in-Err-carry_out-clause-turned : goal.returns-in-Err-carry_out-clause-turned
returns-in-Err-carry_out-clause-turned g c =
    let v = knows c.args.pass.now in
    let w = knows c.dispatch.new.pass in
    let serves = subst (λ (a : Dispatched). SharedServes (config_of c.args.hub.now) v Call.dispatch c.now-at.result.0 (dispatched_reply a) w) c.in-Ok-Assigned.field-0-is c.in-Ok-Assigned.ensures.serves in
    assigned_spent c.args.hub.now g.N.NodeLink.gives g.C.Clock.gives v w c.args.nodes.now c.now-at.result.0 _ _ _ _ c.in-Ok-Assigned.reservation _ serves
    (ticked _ _ _ _ _ _ c.now-at.ensures.gives c.now-at.ensures.value c.now-at.ensures.later c.now-at.ensures.still) c.in-Err-carry_out.ensures.carried

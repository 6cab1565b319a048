use Rattle.std.proofs.Common.{subst}
use Rattle.grid_types.specs.Calls.{Call}
use Rattle.hub_core.specs.declared.answers.Expiring.{Expiring}
use Rattle.hub_core.specs.Replies.{expiring_reply}
use Rattle.hub_cell.specs.declared.hub.CellFault.{CellFault}
use Rattle.hub_cell.specs.Passes.{IsFault, config_of, knows}
use Rattle.hub_cell.specs.Shared.{SharedServes}
use Rattle.node_client.specs.ClockSteps.{ticked}
use Rattle.hub_workers.specs.Turns.{IdleSpent, expire_spent}
use Rattle.hub_workers.proofs.WorkLemmas.{looked_expired, looked_lacks, looked_over, one_spent}
use Rattle.hub_workers.proofs.ticking.end_idle.Goals as goal

pub returns-in-Ok-Expired-clause-looked : goal.returns-in-Ok-Expired-clause-looked
returns-in-Ok-Expired-clause-looked g c =
    let v = knows c.args.pass.now in
    let w = knows c.expire.new.pass in
    let serves = subst (λ (a : Expiring). SharedServes (config_of c.args.hub.now) v Call.expire c.now-at.result.0 (expiring_reply a) w) c.in-Ok-Expired.field-0-is c.in-Ok-Expired.ensures.serves in
    looked_expired c.args.hub.now g.N.NodeLink.gives g.C.Clock.gives c.finish.result v w c.args.nodes.now c.now-at.result.0 _ _ _ _ c.in-Ok-Expired.closing _ serves
    (ticked _ _ _ _ _ _ c.now-at.ensures.gives c.now-at.ensures.value c.now-at.ensures.later c.now-at.ensures.still) c.finish.ensures.finishes

pub returns-in-Ok-Nothing-clause-looked : goal.returns-in-Ok-Nothing-clause-looked
returns-in-Ok-Nothing-clause-looked g c =
    let v = knows c.args.pass.now in
    let w = knows c.expire.new.pass in
    let serves = subst (λ (a : Expiring). SharedServes (config_of c.args.hub.now) v Call.expire c.now-at.result.0 (expiring_reply a) w) c.in-Ok-Nothing.field-0-is c.in-Ok-Nothing.ensures.serves in
    looked_over c.args.hub.now g.N.NodeLink.gives g.C.Clock.gives v w c.args.nodes.now c.now-at.result.0 _ _ _ _ serves
    (ticked _ _ _ _ _ _ c.now-at.ensures.gives c.now-at.ensures.value c.now-at.ensures.later c.now-at.ensures.still)

pub returns-in-Err-Spent-clause-looked : goal.returns-in-Err-Spent-clause-looked
returns-in-Err-Spent-clause-looked g c =
    let is = subst (λ (f : CellFault). IsFault c.args.hub.now (knows c.args.pass.now) (knows c.expire.new.pass) f) c.in-Err-Spent.field-0-is c.in-Err-Spent.ensures.spent in
    one_spent c.args.hub.now g.N.NodeLink.gives g.C.Clock.gives IdleSpent (knows c.args.pass.now) (knows c.expire.new.pass) c.args.nodes.now Call.expire c.now-at.result.0 c.in-Err-Spent.spent _ _ _ _
    (expire_spent c.now-at.result.0) is
    (ticked _ _ _ _ _ _ c.now-at.ensures.gives c.now-at.ensures.value c.now-at.ensures.later c.now-at.ensures.still)

pub returns-in-Err-Memory-clause-looked : goal.returns-in-Err-Memory-clause-looked
returns-in-Err-Memory-clause-looked g c =
    let is = subst (λ (f : CellFault). IsFault c.args.hub.now (knows c.args.pass.now) (knows c.expire.new.pass) f) c.in-Err-Memory.field-0-is c.in-Err-Memory.ensures.spent in
    looked_lacks c.args.hub.now g.N.NodeLink.gives g.C.Clock.gives (knows c.args.pass.now) (knows c.expire.new.pass) c.args.nodes.now c.now-at.result.0 _ _ _ _ is
    (ticked _ _ _ _ _ _ c.now-at.ensures.gives c.now-at.ensures.value c.now-at.ensures.later c.now-at.ensures.still)

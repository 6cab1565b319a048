use Rattle.std.proofs.Common.{sym, subst}
use Rattle.std.specs.Prelude.{Some}
use Rattle.grid_types.specs.Calls.{Call, Reply}
use Rattle.hub_core.specs.declared.answers.Expiring.{Expiring}
use Rattle.hub_core.specs.HubView.{HubView, ServesLocally}
use Rattle.hub_core.specs.Replies.{expiring_reply}
use Rattle.node_client.specs.ClockSteps.{ticked}
use Rattle.local_driver.specs.Idles.{Looked}
use Rattle.local_driver.specs.World.{WentBy, world_of}
use Rattle.local_driver.specs.declared.before.Idle.TheVariants as idle
use Rattle.local_driver.proofs.WayLemmas.{serves_roomed}
use Rattle.local_driver.proofs.BeginLemmas.{roomed_so, not_roomed, looked_expired, looked_over, looked_lacks, may_free, ends_one}
use Rattle.local_driver.proofs.CallLemmas.{goes_then}
use Rattle.local_driver.proofs.before.end_idle.Goals as goal

pub finish-requires-clause-may : goal.finish-requires-clause-may
finish-requires-clause-may g c =
    may_free (g.H.OwnHub.own.shown c.has_room.new.self) (g.H.OwnHub.own.shown c.expire.new.self) c.now-at.result.0 c.in-Expired.closing
    (subst (λ (a : Expiring). ServesLocally (g.H.OwnHub.own.shown c.has_room.new.self) Call.expire c.now-at.result.0 (expiring_reply a) (g.H.OwnHub.own.shown c.expire.new.self)) c.in-Expired.is c.in_ok-closing.ensures.serves)

pub returns-then-not-has_room-clause-looked : goal.returns-then-not-has_room-clause-looked
returns-then-not-has_room-clause-looked g c =
    subst (λ (h : HubView). WentBy g.N.NodeLink.gives g.C.Clock.gives (Looked idle.Lacks) (world_of (g.H.OwnHub.own.shown c.args.hub.now) c.args.nodes.now c.args.clock.now (g.C.Clock.view c.args.clock.now))
    (world_of h c.args.nodes.now c.now-at.new.self (g.C.Clock.view c.now-at.new.self))) (sym (not_roomed (g.H.OwnHub.own.shown c.args.hub.now) (g.H.OwnHub.own.shown c.has_room.new.self) c.has_room.result c.if-not-has_room.true c.has_room.ensures.room))
    (looked_lacks g.N.NodeLink.gives g.C.Clock.gives (g.H.OwnHub.own.shown c.args.hub.now) c.args.nodes.now c.now-at.result.0 _ _ _ _
    (ticked _ _ _ _ _ _ c.now-at.ensures.gives c.now-at.ensures.value c.now-at.ensures.later c.now-at.ensures.still))

pub returns-in_ok-sent-in-Expired-clause-looked : goal.returns-in_ok-sent-in-Expired-clause-looked
returns-in_ok-sent-in-Expired-clause-looked g c =
    looked_expired g.N.NodeLink.gives g.C.Clock.gives c.ended.result c.in_ok-sent-in-Expired.sent (g.H.OwnHub.own.shown c.args.hub.now) (g.H.OwnHub.own.shown c.expire.new.self) c.args.nodes.now c.now-at.result.0 _ _ _ _ c.in-Expired.closing _ c.ended.ensures
    (serves_roomed (g.H.OwnHub.own.shown c.args.hub.now) (g.H.OwnHub.own.shown c.has_room.new.self) (g.H.OwnHub.own.shown c.expire.new.self) Call.expire c.now-at.result.0 (Some (Reply.expired c.in-Expired.closing))
    (roomed_so (g.H.OwnHub.own.shown c.args.hub.now) (g.H.OwnHub.own.shown c.has_room.new.self) c.has_room.result c.if-not-has_room.false c.has_room.ensures.room)
    (subst (λ (a : Expiring). ServesLocally (g.H.OwnHub.own.shown c.has_room.new.self) Call.expire c.now-at.result.0 (expiring_reply a) (g.H.OwnHub.own.shown c.expire.new.self)) c.in-Expired.is c.in_ok-closing.ensures.serves))
    (ticked _ _ _ _ _ _ c.now-at.ensures.gives c.now-at.ensures.value c.now-at.ensures.later c.now-at.ensures.still) c.in_ok-sent-in-Expired.ensures.finishes

pub returns-in_ok-sent-in-Expired-clause-ends : goal.returns-in_ok-sent-in-Expired-clause-ends
returns-in_ok-sent-in-Expired-clause-ends g c =
    ends_one c.ended.result c.in_ok-sent-in-Expired.sent (g.H.OwnHub.own.shown c.args.hub.now) (g.H.OwnHub.own.shown c.has_room.new.self) (g.H.OwnHub.own.shown c.expire.new.self) (g.H.OwnHub.own.shown c.finish.new.hub) c.now-at.result.0 c.in-Expired.closing c.ended.ensures
    (roomed_so (g.H.OwnHub.own.shown c.args.hub.now) (g.H.OwnHub.own.shown c.has_room.new.self) c.has_room.result c.if-not-has_room.false c.has_room.ensures.room)
    (subst (λ (a : Expiring). ServesLocally (g.H.OwnHub.own.shown c.has_room.new.self) Call.expire c.now-at.result.0 (expiring_reply a) (g.H.OwnHub.own.shown c.expire.new.self)) c.in-Expired.is c.in_ok-closing.ensures.serves)
    c.in_ok-sent-in-Expired.ensures.live

pub returns-in-Nothing-clause-looked : goal.returns-in-Nothing-clause-looked
returns-in-Nothing-clause-looked g c =
    let serves = subst (λ (a : Expiring). ServesLocally (g.H.OwnHub.own.shown c.has_room.new.self) Call.expire c.now-at.result.0 (expiring_reply a) (g.H.OwnHub.own.shown c.expire.new.self)) c.in-Nothing.is c.in_ok-closing.ensures.serves in
    looked_over g.N.NodeLink.gives g.C.Clock.gives (g.H.OwnHub.own.shown c.args.hub.now) (g.H.OwnHub.own.shown c.expire.new.self) c.args.nodes.now c.now-at.result.0 _ _ _ _
    (serves_roomed (g.H.OwnHub.own.shown c.args.hub.now) (g.H.OwnHub.own.shown c.has_room.new.self) (g.H.OwnHub.own.shown c.expire.new.self) Call.expire c.now-at.result.0 _ (roomed_so (g.H.OwnHub.own.shown c.args.hub.now) (g.H.OwnHub.own.shown c.has_room.new.self) c.has_room.result c.if-not-has_room.false c.has_room.ensures.room) serves)
    (ticked _ _ _ _ _ _ c.now-at.ensures.gives c.now-at.ensures.value c.now-at.ensures.later c.now-at.ensures.still)

pub returns-in-Nothing-clause-goes : goal.returns-in-Nothing-clause-goes
returns-in-Nothing-clause-goes g c = goes_then g.H.OwnHub.own c.args.hub.now c.has_room.new.self c.expire.new.self c.has_room.ensures.goes c.in_ok-closing.ensures.goes

pub returns-in_ok-sent-in-Expired-clause-goes : goal.returns-in_ok-sent-in-Expired-clause-goes
returns-in_ok-sent-in-Expired-clause-goes g c = goes_then g.H.OwnHub.own c.args.hub.now c.expire.new.self c.finish.new.hub (goes_then g.H.OwnHub.own c.args.hub.now c.has_room.new.self c.expire.new.self c.has_room.ensures.goes c.in_ok-closing.ensures.goes) c.in_ok-sent-in-Expired.ensures.goes

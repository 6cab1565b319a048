use Rattle.std.proofs.Common.{sym, subst, false, []}
use Rattle.grid_types.specs.Calls.{Call}
use Rattle.hub_core.specs.HubView.{HubView}
use Rattle.node_client.specs.ClockSteps.{ticked}
use Rattle.local_driver.specs.Beginning.{BeginsOrLacks}
use Rattle.local_driver.specs.World.{WentBy, world_of}
use Rattle.local_driver.proofs.WayLemmas.{serves_roomed}
use Rattle.local_driver.proofs.BeginLemmas.{roomed_so, not_roomed, if_then, swept_so, sweep_not}
use Rattle.local_driver.proofs.CallLemmas.{goes_then, on_then}
use Rattle.local_driver.proofs.before.sweep_and_end.Goals as goal

pub returns-then-not-has_room-clause-begins : goal.returns-then-not-has_room-clause-begins
returns-then-not-has_room-clause-begins g c =
    subst (λ (h : HubView). WentBy g.N.NodeLink.gives g.C.Clock.gives (BeginsOrLacks [] false) (world_of (g.H.OwnHub.own.shown c.args.hub.now) c.args.nodes.now c.args.clock.now (g.C.Clock.view c.args.clock.now))
    (world_of h c.args.nodes.now c.now-at.new.self (g.C.Clock.view c.now-at.new.self))) (sym (not_roomed (g.H.OwnHub.own.shown c.args.hub.now) (g.H.OwnHub.own.shown c.has_room.new.self) c.has_room.result c.if-not-has_room.true c.has_room.ensures.room))
    (sweep_not g.N.NodeLink.gives g.C.Clock.gives (g.H.OwnHub.own.shown c.args.hub.now) c.args.nodes.now c.now-at.result.0 _ _ _ _
    (ticked _ _ _ _ _ _ c.now-at.ensures.gives c.now-at.ensures.value c.now-at.ensures.later c.now-at.ensures.still))

pub returns-clause-begins : goal.returns-clause-begins
returns-clause-begins g c =
    if_then c.end_all_idle.result (λ done went.
    swept_so g.N.NodeLink.gives g.C.Clock.gives done (g.H.OwnHub.own.shown c.args.hub.now) (g.H.OwnHub.own.shown c.sweep.new.self) c.args.nodes.now c.now-at.result.0 _ _ _ _ _ _
    (serves_roomed (g.H.OwnHub.own.shown c.args.hub.now) (g.H.OwnHub.own.shown c.has_room.new.self) (g.H.OwnHub.own.shown c.sweep.new.self) Call.sweep c.now-at.result.0 _ (roomed_so (g.H.OwnHub.own.shown c.args.hub.now) (g.H.OwnHub.own.shown c.has_room.new.self) c.has_room.result c.if-not-has_room.false c.has_room.ensures.room) c.in_ok-sweep.ensures.serves)
    (ticked _ _ _ _ _ _ c.now-at.ensures.gives c.now-at.ensures.value c.now-at.ensures.later c.now-at.ensures.still) went) c.end_all_idle.ensures.ends

pub returns-clause-goes : goal.returns-clause-goes
returns-clause-goes g c =
    on_then g.H.OwnHub.own c.args.hub.now c.sweep.new.self c.end_all_idle.new.hub c.end_all_idle.result
    (goes_then g.H.OwnHub.own c.args.hub.now c.has_room.new.self c.sweep.new.self c.has_room.ensures.goes c.in_ok-sweep.ensures.goes) c.end_all_idle.ensures.goes

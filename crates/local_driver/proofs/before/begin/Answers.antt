use Rattle.std.proofs.Common.{arith}
use Rattle.node_client.specs.ClockSteps.{ticked}
use Rattle.local_driver.proofs.CallLemmas.{goes_same, goes_then, on_then}
use Rattle.local_driver.proofs.BeginLemmas.{roomed_so, not_roomed, if_then, beaten_none, beats_on, beats_not, begins_then}
use Rattle.local_driver.proofs.before.begin.Goals as goal

pub loop-node-init : goal.loop-node-init
loop-node-init g c = (beaten_none g.N.NodeLink.gives g.C.Clock.gives _, goes_same g.H.OwnHub.own c.args.hub.now c.requires)

pub loop-node-preserved : goal.loop-node-preserved
loop-node-preserved g c = (
  beats_on g.N.NodeLink.gives g.C.Clock.gives c.args.own.now c.loop-node.node-index 0 c.in_ok-beat.field-0 _ (g.H.OwnHub.own.shown c.loop-node.hub) (g.H.OwnHub.own.shown c.has_room.new.self) (g.H.OwnHub.own.shown c.beat.new.self) _ c.now-at.result.0 _ _ _ _
      (omega (arith, c.loop-node-test.true)) c.loop-node.invariant.0 (roomed_so (g.H.OwnHub.own.shown c.loop-node.hub) (g.H.OwnHub.own.shown c.has_room.new.self) c.has_room.result c.if-not-has_room.false c.has_room.ensures.room) c.in_ok-beat.ensures.serves
      (ticked _ _ _ _ _ _ c.now-at.ensures.gives c.now-at.ensures.value c.now-at.ensures.later c.now-at.ensures.still),
  goes_then g.H.OwnHub.own c.args.hub.now c.has_room.new.self c.beat.new.self
      (goes_then g.H.OwnHub.own c.args.hub.now c.loop-node.hub c.has_room.new.self c.loop-node.invariant.1 c.has_room.ensures.goes) c.in_ok-beat.ensures.goes,
)

pub returns-then-not-has_room-clause-begins : goal.returns-then-not-has_room-clause-begins
returns-then-not-has_room-clause-begins g c =
    beats_not g.N.NodeLink.gives g.C.Clock.gives c.args.own.now c.loop-node.node-index _ (g.H.OwnHub.own.shown c.loop-node.hub) (g.H.OwnHub.own.shown c.has_room.new.self) _ c.now-at.result.0 _ _ _ _ (omega (arith, c.loop-node-test.true))
    c.loop-node.invariant.0 (not_roomed (g.H.OwnHub.own.shown c.loop-node.hub) (g.H.OwnHub.own.shown c.has_room.new.self) c.has_room.result c.if-not-has_room.true c.has_room.ensures.room)
    (ticked _ _ _ _ _ _ c.now-at.ensures.gives c.now-at.ensures.value c.now-at.ensures.later c.now-at.ensures.still)

pub returns-clause-begins : goal.returns-clause-begins
returns-clause-begins g c =
    if_then c.sweep_and_end.result (λ done went.
    begins_then g.N.NodeLink.gives g.C.Clock.gives c.args.own.now c.loop-node.node-index _ _ _ done (omega (arith, c.loop-node-test.false)) c.loop-node.invariant.0 went)
    c.sweep_and_end.ensures.begins

pub returns-clause-goes : goal.returns-clause-goes
returns-clause-goes g c = on_then g.H.OwnHub.own c.args.hub.now c.loop-node.hub c.sweep_and_end.new.hub c.sweep_and_end.result c.loop-node.invariant.1 c.sweep_and_end.ensures.goes

pub returns-then-not-has_room-clause-goes : goal.returns-then-not-has_room-clause-goes
returns-then-not-has_room-clause-goes g c = goes_then g.H.OwnHub.own c.args.hub.now c.loop-node.hub c.has_room.new.self c.loop-node.invariant.1 c.has_room.ensures.goes

use Rattle.node_client.specs.ClockSteps.{ticked}
use Rattle.local_driver.proofs.TurnLemmas.{begun_less, begun_turn, hub_less, hub_turn, lacks_turn, node_less, node_turn, over_turn, pause_less, pause_turn, read_less, read_turn, write_less, write_turn}
use Rattle.local_driver.proofs.BeginLemmas.{begins_so, lacks_so}
use Rattle.local_driver.proofs.CallLemmas.{goes_same}
use Rattle.local_driver.proofs.serving.turn.Goals as goal

pub returns-in-Read-clause-turned : goal.returns-in-Read-clause-turned
returns-in-Read-clause-turned g c = read_turn g.N.NodeLink.gives g.C.Clock.gives c.args.own.now c.laws_hold.ensures.wants c.args.talk.now c.feed.new.self c.next.result c.in-Read.most c.read_piece-answer.result _ _ _
    c.next.ensures c.in-Read.is c.read_piece-answer.ensures.reads c.feed.ensures

pub returns-in-Read-clause-less : goal.returns-in-Read-clause-less
returns-in-Read-clause-less g c =
    read_less g.N.NodeLink.gives g.C.Clock.gives c.args.own.now c.args.talk.now c.feed.new.self c.in-Read.most c.read_piece-answer.result _ c.read_piece-answer.ensures.reads.fits c.read_piece-answer.ensures.some c.feed.ensures

pub returns-in-Write-clause-turned : goal.returns-in-Write-clause-turned
returns-in-Write-clause-turned g c = write_turn g.N.NodeLink.gives g.C.Clock.gives c.args.own.now c.args.talk.now c.feed-in-Write.new.self c.next.result c.in-Write.bytes c.write_some-answer.result _ _ _
    c.next.ensures c.in-Write.is c.write_some-answer.ensures.writes c.feed-in-Write.ensures

pub returns-in-Write-clause-less : goal.returns-in-Write-clause-less
returns-in-Write-clause-less g c = write_less g.N.NodeLink.gives g.C.Clock.gives c.args.own.now c.requires.serving.0 c.args.talk.now c.feed-in-Write.new.self c.next.result c.in-Write.bytes c.write_some-answer.result _ _
    c.requires.serving.1 c.next.ensures c.in-Write.is c.write_some-answer.ensures.writes.fits c.write_some-answer.ensures.some c.feed-in-Write.ensures

pub returns-then-not-branch-clause-turned : goal.returns-then-not-branch-clause-turned
returns-then-not-branch-clause-turned g c = lacks_turn g.N.NodeLink.gives g.C.Clock.gives c.args.own.now c.args.talk.now c.args.talk.now c.next.result _ _ _ c.next.ensures c.in-Begin.is
    (lacks_so g.N.NodeLink.gives g.C.Clock.gives c.args.own.now c.in_ok-begin-in-Begin.field-0 _ _ c.if-not-branch.true c.in_ok-begin-in-Begin.ensures.begins)

pub returns-else-not-branch-clause-turned : goal.returns-else-not-branch-clause-turned
returns-else-not-branch-clause-turned g c = begun_turn g.N.NodeLink.gives g.C.Clock.gives c.args.own.now c.laws_hold.ensures.calls c.args.talk.now c.feed-in-Begin.new.self c.next.result _ _ _ c.next.ensures c.in-Begin.is
    (begins_so g.N.NodeLink.gives g.C.Clock.gives c.args.own.now c.in_ok-begin-in-Begin.field-0 _ _ c.if-not-branch.false c.in_ok-begin-in-Begin.ensures.begins) c.feed-in-Begin.ensures

pub returns-else-not-branch-clause-less : goal.returns-else-not-branch-clause-less
returns-else-not-branch-clause-less g c = begun_less g.N.NodeLink.gives g.C.Clock.gives c.args.own.now c.args.talk.now c.feed-in-Begin.new.self _ _ c.feed-in-Begin.ensures

pub returns-in_ok-answer-in-Hub-clause-turned : goal.returns-in_ok-answer-in-Hub-clause-turned
returns-in_ok-answer-in-Hub-clause-turned g c = hub_turn g.N.NodeLink.gives g.C.Clock.gives c.args.own.now c.laws_hold.ensures.calls c.laws_hold.ensures.wants c.laws_hold.ensures.newest c.laws_hold.ensures.starts
    c.laws_hold.ensures.early c.laws_hold.ensures.moments c.args.talk.now c.hub_call-call.new.self c.feed-in-Hub.new.self c.hub_call-call.result c.in_ok-answer-in-Hub.answer c.now-at.result.0
    (g.H.OwnHub.own.shown c.args.hub.now) (g.H.OwnHub.own.shown c.make.new.hub) c.args.nodes.now _ _ _ _ _ c.is_legal.ensures c.now-at.ensures.value c.hub_call-call.ensures c.in_ok-answer-in-Hub.ensures.made c.feed-in-Hub.ensures
    (ticked _ _ _ _ _ _ c.now-at.ensures.gives c.now-at.ensures.value c.now-at.ensures.later c.now-at.ensures.still)

pub returns-in_ok-answer-in-Hub-clause-less : goal.returns-in_ok-answer-in-Hub-clause-less
returns-in_ok-answer-in-Hub-clause-less g c = hub_less g.N.NodeLink.gives g.C.Clock.gives c.args.own.now c.laws_hold.ensures.calls c.laws_hold.ensures.wants c.laws_hold.ensures.newest c.laws_hold.ensures.starts
    c.laws_hold.ensures.early c.laws_hold.ensures.moments c.requires.serving.0 c.args.talk.now c.hub_call-call.new.self c.feed-in-Hub.new.self c.hub_call-call.result c.in_ok-answer-in-Hub.answer
    c.now-at.result.0 (g.H.OwnHub.own.shown c.args.hub.now) (g.H.OwnHub.own.shown c.make.new.hub) c.args.nodes.now _ _ _ _ _ c.requires.serving.1 c.is_legal.ensures c.is_legal-in-Hub.ensures c.hub_call-call.ensures
    c.in_ok-answer-in-Hub.ensures.made c.feed-in-Hub.ensures (ticked _ _ _ _ _ _ c.now-at.ensures.gives c.now-at.ensures.value c.now-at.ensures.later c.now-at.ensures.still)

pub returns-in-Node-clause-turned : goal.returns-in-Node-clause-turned
returns-in-Node-clause-turned g c = node_turn g.N.NodeLink.gives g.C.Clock.gives c.args.own.now c.args.talk.now c.feed-in-Node.new.self c.next.result c.in-Node.address c.in-Node.request c.exchange-came.result
    (g.H.OwnHub.own.shown c.args.hub.now) c.args.nodes.now c.exchange-came.new.self _ _ _ c.next.ensures c.in-Node.is c.feed-in-Node.ensures c.exchange-came.ensures.gives

pub returns-in-Node-clause-less : goal.returns-in-Node-clause-less
returns-in-Node-clause-less g c = node_less g.N.NodeLink.gives g.C.Clock.gives c.args.own.now c.args.talk.now c.feed-in-Node.new.self c.exchange-came.result _ c.feed-in-Node.ensures

pub returns-in-Pause-clause-turned : goal.returns-in-Pause-clause-turned
returns-in-Pause-clause-turned g c = pause_turn g.N.NodeLink.gives g.C.Clock.gives c.args.own.now c.args.talk.now c.feed-in-Pause.new.self c.next.result c.in-Pause.ms (g.H.OwnHub.own.shown c.args.hub.now) c.args.nodes.now _ _ _ _ _
    c.next.ensures c.in-Pause.is c.feed-in-Pause.ensures
    (record { at = c.pause-now.result.0; gave = c.pause-now.ensures.gives; long_enough = c.pause-now.ensures.long_enough; told = c.pause-now.ensures.told })

pub returns-in-Pause-clause-less : goal.returns-in-Pause-clause-less
returns-in-Pause-clause-less g c = pause_less g.N.NodeLink.gives g.C.Clock.gives c.args.own.now c.requires.serving.0 c.args.talk.now c.feed-in-Pause.new.self c.next.result c.in-Pause.ms (g.H.OwnHub.own.shown c.args.hub.now)
    c.args.nodes.now _ _ _ _ _ c.laws_hold.ensures.wants c.requires.serving.1 c.next.ensures c.in-Pause.is
    (record { at = c.pause-now.result.0; gave = c.pause-now.ensures.gives; long_enough = c.pause-now.ensures.long_enough; told = c.pause-now.ensures.told }) c.feed-in-Pause.ensures

pub returns-in-Done-clause-turned : goal.returns-in-Done-clause-turned
returns-in-Done-clause-turned g c = over_turn g.N.NodeLink.gives g.C.Clock.gives c.args.own.now c.args.talk.now c.args.talk.now c.next.result c.in-Done.result _ c.next.ensures c.in-Done.is
    (c.next.ensures.blames c.in-Done.result c.in-Done.is)

pub returns-in-Read-clause-goes : goal.returns-in-Read-clause-goes
returns-in-Read-clause-goes g c = goes_same g.H.OwnHub.own c.args.hub.now c.requires.open

pub returns-in-Write-clause-goes : goal.returns-in-Write-clause-goes
returns-in-Write-clause-goes g c = goes_same g.H.OwnHub.own c.args.hub.now c.requires.open

pub returns-in-Node-clause-goes : goal.returns-in-Node-clause-goes
returns-in-Node-clause-goes g c = goes_same g.H.OwnHub.own c.args.hub.now c.requires.open

pub returns-in-Pause-clause-goes : goal.returns-in-Pause-clause-goes
returns-in-Pause-clause-goes g c = goes_same g.H.OwnHub.own c.args.hub.now c.requires.open

pub returns-in-Done-clause-goes : goal.returns-in-Done-clause-goes
returns-in-Done-clause-goes g c = goes_same g.H.OwnHub.own c.args.hub.now c.requires.open

pub returns-then-not-branch-clause-goes : goal.returns-then-not-branch-clause-goes
returns-then-not-branch-clause-goes g c = c.in_ok-begin-in-Begin.ensures.goes

pub returns-else-not-branch-clause-goes : goal.returns-else-not-branch-clause-goes
returns-else-not-branch-clause-goes g c = c.in_ok-begin-in-Begin.ensures.goes

pub returns-in_ok-answer-in-Hub-clause-goes : goal.returns-in_ok-answer-in-Hub-clause-goes
returns-in_ok-answer-in-Hub-clause-goes g c = c.in_ok-answer-in-Hub.ensures.goes

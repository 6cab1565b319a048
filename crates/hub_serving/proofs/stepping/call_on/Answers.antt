use Rattle.hub_cell.specs.Passes.{knows}
use Rattle.hub_workers.specs.ClockLaws.{asked_once, remembers_now, shared_ticks}
use Rattle.hub_workers.specs.SharedClock.{SharedTells}
use Rattle.conn_script.specs.declared.wants.Want.TheVariants as wants
use Rattle.hub_serving.proofs.SeatLemmas.{goes_on}
use Rattle.hub_serving.proofs.TurnLemmas.{hub_turn}
use Rattle.hub_serving.proofs.stepping.call_on.Goals as goal

pub returns-clause-remembers : goal.returns-clause-remembers
returns-clause-remembers g c =
    remembers_now g.C.Clock.gives g.C.Clock.view c.now-at.new.self c.of-told.result.value c.now-at.result.0 c.of-told.ensures c.now-at.ensures.value

pub returns-clause-acted : goal.returns-clause-acted
returns-clause-acted g c = record {
  asked = asked_once g.C.Clock.gives g.C.Clock.view c.args.clock.now c.now-at.new.self c.now-at.result.0 c.now-at.ensures.gives c.now-at.ensures.later;
  goes = goes_on c.args.hub.now g.N.NodeLine.gives g.N.NodeLine.asks g.C.Clock.gives g.C.Clock.view c.args.talk.now c.feed.new.self wants.Hub c.args.nodes.now c.args.asking.now _ _ c.requires.wants tt
      (hub_turn c.args.hub.now g.N.NodeLine.gives (SharedTells g.C.Clock.gives g.C.Clock.view) c.args.talk.now c.hub_call-call.new.self c.feed.new.self c.hub_call-call.result c.make-answer.result c.now-at.result.0
      (knows c.args.pass.now) (knows c.make-answer.new.pass) (g.N.NodeLine.state c.args.nodes.now) c.args.last.now.value c.of-told.result.value _ _ _
      c.calls_are_rightful.ensures c.hub_call-call.ensures c.hub_call-call.ensures.blames c.make-answer.ensures.made c.feed.ensures
      (shared_ticks g.C.Clock.gives g.C.Clock.view c.args.last.now.value c.args.clock.now c.now-at.new.self c.of-told.result.value c.now-at.result.0
      c.requires.remembers.since c.now-at.ensures.gives c.now-at.ensures.value c.now-at.ensures.later c.of-told.ensures));
}

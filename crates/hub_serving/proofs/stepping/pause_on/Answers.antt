use Rattle.std.proofs.Common.{◌≤◌, ℕ, ap, arith, refl, subst}
use Rattle.grid_outside.specs.Told.{LinkView, later_by}
use Rattle.hub_cell.specs.Passes.{knows}
use Rattle.hub_workers.specs.ClockLaws.{asked_once, remembers_now, remembers_on, shared_pause}
use Rattle.hub_serving.specs.Seats.{seen_by}
use Rattle.hub_workers.specs.SharedClock.{SharedTells}
use Rattle.conn_script.specs.declared.wants.Want.TheVariants as wants
use Rattle.hub_serving.proofs.SeatLemmas.{goes_on, rests}
use Rattle.hub_serving.proofs.TurnLemmas.{gone_turn, pause_turn}
use Rattle.hub_serving.proofs.stepping.pause_on.Goals as goal

pub feed-requires-clause-awaits : goal.feed-requires-clause-awaits
feed-requires-clause-awaits g c = c.if-has_left.ensures.0

pub returns-then-has_left-clause-remembers : goal.returns-then-has_left-clause-remembers
returns-then-has_left-clause-remembers g c =
    remembers_on g.C.Clock.gives g.C.Clock.view c.args.clock.now c.now-now.new.self c.args.moment.now c.args.last.now.value
    (asked_once g.C.Clock.gives g.C.Clock.view c.args.clock.now c.now-now.new.self c.now-now.result.0 c.now-now.ensures.gives c.now-now.ensures.later) c.requires.remembers

pub returns-then-has_left-clause-acted : goal.returns-then-has_left-clause-acted
returns-then-has_left-clause-acted g c = record {
  asked = asked_once g.C.Clock.gives g.C.Clock.view c.args.clock.now c.now-now.new.self c.now-now.result.0 c.now-now.ensures.gives c.now-now.ensures.later;
  goes = goes_on c.args.hub.now g.N.NodeLine.gives g.N.NodeLine.asks g.C.Clock.gives g.C.Clock.view c.args.talk.now c.feed.new.self (wants.Pause c.args.ms) c.args.nodes.now c.args.asking.now _ _ c.requires.wants tt
      (gone_turn c.args.hub.now g.N.NodeLine.gives (SharedTells g.C.Clock.gives g.C.Clock.view) c.args.talk.now c.feed.new.self (wants.Pause c.args.ms) c.args.ms _ _ _
      c.requires.wants refl c.feed.ensures c.if-has_left.ensures.1);
}

pub returns-then-now-due-clause-remembers : goal.returns-then-now-due-clause-remembers
returns-then-now-due-clause-remembers g c =
    remembers_on g.C.Clock.gives g.C.Clock.view c.args.clock.now c.now-now.new.self c.args.moment.now c.args.last.now.value
    (asked_once g.C.Clock.gives g.C.Clock.view c.args.clock.now c.now-now.new.self c.now-now.result.0 c.now-now.ensures.gives c.now-now.ensures.later) c.requires.remembers

pub returns-then-now-due-clause-acted : goal.returns-then-now-due-clause-acted
returns-then-now-due-clause-acted g c = record {
  asked = asked_once g.C.Clock.gives g.C.Clock.view c.args.clock.now c.now-now.new.self c.now-now.result.0 c.now-now.ensures.gives c.now-now.ensures.later;
  goes = rests c.args.hub.now g.N.NodeLine.gives g.N.NodeLine.asks g.C.Clock.gives g.C.Clock.view c.args.talk.now c.args.nodes.now c.args.asking.now _ _
      (ap (λ (l : LinkView). seen_by g.C.Clock.view c.args.pass.now (g.N.NodeLine.state c.args.nodes.now) c.args.last.now.value l)
      c.if-has_left.ensures);
}

pub returns-clause-remembers : goal.returns-clause-remembers
returns-clause-remembers g c =
    remembers_now g.C.Clock.gives g.C.Clock.view c.now-now.new.self c.of-rested.result.value c.now-now.result.0 c.of-rested.ensures c.now-now.ensures.value

pub returns-clause-acted : goal.returns-clause-acted
returns-clause-acted g c = record {
  asked = asked_once g.C.Clock.gives g.C.Clock.view c.args.clock.now c.now-now.new.self c.now-now.result.0 c.now-now.ensures.gives c.now-now.ensures.later;
  goes = goes_on c.args.hub.now g.N.NodeLine.gives g.N.NodeLine.asks g.C.Clock.gives g.C.Clock.view c.args.talk.now c.feed-2.new.self (wants.Pause c.args.ms) c.args.nodes.now c.args.asking.now _ _ c.requires.wants tt
      (pause_turn c.args.hub.now g.N.NodeLine.gives (SharedTells g.C.Clock.gives g.C.Clock.view) c.args.talk.now c.feed-2.new.self (wants.Pause c.args.ms) c.args.ms (knows c.args.pass.now) (g.N.NodeLine.state c.args.nodes.now)
      c.args.last.now.value c.of-rested.result.value _ _ _ c.requires.wants refl c.feed-2.ensures
      (shared_pause g.C.Clock.gives g.C.Clock.view c.args.ms c.args.last.now.value c.args.clock.now c.now-now.new.self c.of-rested.result.value c.now-now.result.0
      c.requires.remembers.since c.now-now.ensures.gives c.now-now.ensures.value
      (subst (λ (m : ℕ). later_by m c.args.ms ≤ c.now-now.result.0) c.requires.remembers.moment_is
      (subst (λ (d : ℕ). d ≤ c.now-now.result.0) c.due_of-due.ensures (omega (arith, c.if-now-due.false))))
      c.of-rested.ensures));
}

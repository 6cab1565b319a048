use Rattle.std.proofs.Common.{◌∙◌, ap, subst, sym}
use Rattle.grid_outside.specs.Told.{LinkView}
use Rattle.hub_cell.specs.Passes.{knows}
use Rattle.hub_serving.specs.Seats.{seen_by}
use Rattle.hub_workers.specs.SharedClock.{SharedTells, not_asked}
use Rattle.hub_serving.proofs.SeatLemmas.{IsNoAsk, begins, begun, ends, goes_on, replied, rests, took_piece}
use Rattle.hub_serving.proofs.TurnLemmas.{over_turn, write_turn}
use Rattle.hub_serving.proofs.stepping.advance.Goals as goal

pub returns-in-Read-clause-acted : goal.returns-in-Read-clause-acted
returns-in-Read-clause-acted g c = record {
  asked = not_asked;
  goes = took_piece c.args.hub.now g.N.NodeLine.gives g.N.NodeLine.asks g.C.Clock.gives g.C.Clock.view c.wants_come_in_order.ensures c.read_on.result c.args.talk.now c.read_on.new.talk c.next.result c.in-Read.most
      c.args.nodes.now c.args.asking.now c.read_on.new.asking _ _ _ c.next.ensures c.in-Read.is c.read_on.ensures;
}

pub returns-in-Some-clause-acted : goal.returns-in-Some-clause-acted
returns-in-Some-clause-acted g c = record {
  asked = not_asked;
  goes = goes_on c.args.hub.now g.N.NodeLine.gives g.N.NodeLine.asks g.C.Clock.gives g.C.Clock.view c.args.talk.now c.feed.new.self c.next.result c.args.nodes.now c.args.asking.now _ _ c.next.ensures (subst IsNoAsk (sym c.in-Write.is) tt)
      (write_turn c.args.hub.now g.N.NodeLine.gives (SharedTells g.C.Clock.gives g.C.Clock.view) c.args.talk.now c.feed.new.self c.next.result c.in-Write.bytes c.in-Some.answer _ _ _
      c.next.ensures c.in-Write.is c.in-Some.ensures.writes c.feed.ensures);
}

pub returns-in-None-clause-acted : goal.returns-in-None-clause-acted
returns-in-None-clause-acted g c = record {
  asked = not_asked;
  goes = rests c.args.hub.now g.N.NodeLine.gives g.N.NodeLine.asks g.C.Clock.gives g.C.Clock.view c.args.talk.now c.args.nodes.now c.args.asking.now _ _
      (ap (λ (l : LinkView). seen_by g.C.Clock.view c.args.pass.now (g.N.NodeLine.state c.args.nodes.now) c.args.last.now.value l) c.in-None.ensures.not_now);
}

pub returns-in-Begin-clause-acted : goal.returns-in-Begin-clause-acted
returns-in-Begin-clause-acted g c = record {
  asked = not_asked;
  goes = begun c.args.hub.now g.N.NodeLine.gives g.N.NodeLine.asks g.C.Clock.gives g.C.Clock.view c.args.talk.now c.begin_on.new.talk c.next.result c.args.nodes.now c.args.asking.now c.begin_on.new.asking _
      c.next.ensures c.in-Begin.is c.begin_on.ensures.begun c.begin_on.ensures.asking;
}

pub returns-then-not-asked-clause-acted : goal.returns-then-not-asked-clause-acted
returns-then-not-asked-clause-acted g c = record {
  asked = not_asked;
  goes = begins c.args.hub.now g.N.NodeLine.gives g.N.NodeLine.asks g.C.Clock.gives g.C.Clock.view c.args.talk.now c.next.result c.in-Node.address c.in-Node.request c.args.nodes.now c.ask.new.self c.args.asking.now _ _
      c.next.ensures c.in-Node.is c.ask.ensures.asks (ap (λ (st : g.N.NodeLine.State). seen_by g.C.Clock.view c.args.pass.now st c.args.last.now.value (g.L.Line.view c.args.line.now)) (c.ask.ensures.same ∙ c.allow.ensures.same));
}

pub returns-else-not-asked-clause-acted : goal.returns-else-not-asked-clause-acted
returns-else-not-asked-clause-acted g c = record {
  asked = not_asked;
  goes = replied c.args.hub.now g.N.NodeLine.gives g.N.NodeLine.asks g.C.Clock.gives g.C.Clock.view c.take_reply-in-Node.result c.args.talk.now c.take_reply-in-Node.new.talk
      (knows c.args.pass.now) c.args.nodes.now c.take_reply-in-Node.new.nodes c.args.asking.now c.take_reply-in-Node.new.asking g.N.NodeLine.faults _ _ c.args.last.now.value _ _
      c.if-not-asked.false c.take_reply-in-Node.ensures;
}

pub returns-then-passes_on-clause-acted : goal.returns-then-passes_on-clause-acted
returns-then-passes_on-clause-acted g c = record {
  asked = not_asked;
  goes = replied c.args.hub.now g.N.NodeLine.gives g.N.NodeLine.asks g.C.Clock.gives g.C.Clock.view c.take_reply.result c.args.talk.now c.take_reply.new.talk
      (knows c.args.pass.now) c.args.nodes.now c.take_reply.new.nodes c.args.asking.now c.take_reply.new.asking g.N.NodeLine.faults _ _ c.args.last.now.value _ _
      c.if-asked.true c.take_reply.ensures;
}

pub returns-in-Done-clause-acted : goal.returns-in-Done-clause-acted
returns-in-Done-clause-acted g c = record {
  asked = not_asked;
  goes = ends c.args.hub.now g.N.NodeLine.gives g.N.NodeLine.asks g.C.Clock.gives g.C.Clock.view c.args.talk.now c.args.talk.now c.args.nodes.now c.args.asking.now c.in-Done.result _
      (over_turn c.args.hub.now g.N.NodeLine.gives (SharedTells g.C.Clock.gives g.C.Clock.view) c.args.talk.now c.args.talk.now c.next.result c.in-Done.result _ c.next.ensures c.in-Done.is
      (c.next.ensures.blames c.in-Done.result c.in-Done.is));
}

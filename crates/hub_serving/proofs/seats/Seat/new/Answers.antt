use Rattle.std.proofs.Common.{◌∙◌, ap, sym}
use Rattle.hub_workers.specs.ClockLaws.{asked_once, remembers_now}
use Rattle.hub_serving.proofs.SeatLemmas.{begins_seated, seen_same}
use Rattle.hub_serving.proofs.seats.Seat.new.Goals as goal

pub returns-clause-seated : goal.returns-clause-seated
returns-clause-seated g c hub own = record {
  own = own;
  served = begins_seated hub g.N.NodeLine.gives g.N.NodeLine.asks g.C.Clock.gives g.C.Clock.view c.new.result c.args.nodes _ _
      (seen_same g.C.Clock.view _ _ _ _ _ _ _ _ c.of-first_pass.ensures (ap g.N.NodeLine.state c.of-first_nodes.ensures) (c.of-first_clock.ensures ∙ sym c.of-last.ensures)
      (ap g.L.Line.view c.of-first_line.ensures)) c.new.ensures c.requires.idle;
  remembers = remembers_now g.C.Clock.gives g.C.Clock.view c.now-now.new.self c.of-last.result.value c.now-now.result.0 c.of-last.ensures c.now-now.ensures.value;
}

pub returns-clause-first : goal.returns-clause-first
returns-clause-first g c = seen_same g.C.Clock.view _ _ _ _ _ _ _ _ c.of-first_pass.ensures (ap g.N.NodeLine.state c.of-first_nodes.ensures) c.of-first_clock.ensures
    (ap g.L.Line.view c.of-first_line.ensures)

pub returns-clause-asked : goal.returns-clause-asked
returns-clause-asked g c = asked_once g.C.Clock.gives g.C.Clock.view c.args.clock.now c.now-now.new.self c.now-now.result.0 c.now-now.ensures.gives c.now-now.ensures.later

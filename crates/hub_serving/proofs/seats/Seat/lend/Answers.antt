use Rattle.hub_serving.proofs.StillLemmas.{with_pass}
use Rattle.hub_serving.proofs.seats.Seat.lend.Goals as goal

pub returns-clause-still : goal.returns-clause-still
returns-clause-still g c =
    with_pass c.args.hub.now g.L.Line.view g.N.NodeLine.state g.N.NodeLine.gives g.N.NodeLine.asks g.C.Clock.gives g.C.Clock.view
    c.args.self.now c.lend.new.pass c.lend.ensures.same.0 c.lend.ensures.own

use Rattle.hub_serving.proofs.StillLemmas.{with_talk}
use Rattle.hub_serving.proofs.seats.Seat.rest.Goals as goal

pub returns-clause-still : goal.returns-clause-still
returns-clause-still g c hub =
    with_talk hub g.L.Line.view g.N.NodeLine.state g.N.NodeLine.gives g.N.NodeLine.asks g.C.Clock.gives g.C.Clock.view
    c.args.self.now c.rest.new.self c.rest.ensures.rested

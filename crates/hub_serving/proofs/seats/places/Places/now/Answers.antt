use Rattle.hub_workers.specs.ClockLaws.{asked_once}
use Rattle.hub_serving.proofs.SeatedLemmas.{at_on}
use Rattle.hub_serving.proofs.seats.places.Places.now.Goals as goal

pub returns-clause-seated : goal.returns-clause-seated
returns-clause-seated g c = λ hub seated k d below.
    at_on hub g.L.Line.view g.N.NodeLine.state g.N.NodeLine.gives g.N.NodeLine.asks g.C.Clock.gives g.C.Clock.view c.args.clock.now c.now.new.self _
    (asked_once g.C.Clock.gives g.C.Clock.view c.args.clock.now c.now.new.self c.now.result.0 c.now.ensures.gives c.now.ensures.later)
    (seated k d below)

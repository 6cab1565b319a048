use Rattle.hub_serving.proofs.SeatedLemmas.{at_on}
use Rattle.hub_serving.proofs.seats.places.Places.stay.Goals as goal

pub returns : goal.returns
returns g c = λ hub clock later asked seated k d below.
    at_on hub g.L.Line.view g.N.NodeLine.state g.N.NodeLine.gives g.N.NodeLine.asks g.C.Clock.gives g.C.Clock.view clock later _ asked (seated k d below)

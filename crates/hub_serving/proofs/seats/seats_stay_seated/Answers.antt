use Rattle.hub_serving.proofs.SeatedLemmas.{seated_on}
use Rattle.hub_serving.proofs.seats.seats_stay_seated.Goals as goal

pub returns : goal.returns
returns g c hub seat clock later asked seated =
    seated_on hub g.L.Line.view g.N.NodeLine.state g.N.NodeLine.gives g.N.NodeLine.asks g.C.Clock.gives g.C.Clock.view clock later seat asked seated

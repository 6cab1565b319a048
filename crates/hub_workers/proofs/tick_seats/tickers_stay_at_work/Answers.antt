use Rattle.hub_workers.proofs.TickSeatLemmas.{at_work_on}
use Rattle.hub_workers.proofs.tick_seats.tickers_stay_at_work.Goals as goal

pub returns : goal.returns
returns g c hub seat clock later asked at_work =
    at_work_on hub g.N.NodeLine.state g.N.NodeLine.gives g.N.NodeLine.asks g.C.Clock.gives g.C.Clock.view clock later seat asked at_work

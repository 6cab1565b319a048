use Rattle.hub_workers.proofs.WorkSeatLemmas.{told_at}
use Rattle.hub_workers.proofs.work_seats.WorkSeat.result.Goals as goal

pub returns-in-Between-clause-turns : goal.returns-in-Between-clause-turns
returns-in-Between-clause-turns g c hub clock at_work =
    told_at hub g.N.NodeLine.state g.N.NodeLine.gives g.N.NodeLine.asks g.C.Clock.gives g.C.Clock.view c.args.self.now clock _ c.in-Between.is at_work

pub returns-in-Over-clause-turns : goal.returns-in-Over-clause-turns
returns-in-Over-clause-turns g c hub clock at_work =
    told_at hub g.N.NodeLine.state g.N.NodeLine.gives g.N.NodeLine.asks g.C.Clock.gives g.C.Clock.view c.args.self.now clock _ c.in-Over.is at_work

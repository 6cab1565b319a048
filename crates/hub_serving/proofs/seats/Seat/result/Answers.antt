use Rattle.hub_serving.proofs.TableLemmas.{told_all}
use Rattle.hub_serving.proofs.seats.Seat.result.Goals as goal

pub returns-clause-serves : goal.returns-clause-serves
returns-clause-serves g c hub clock seated =
    told_all hub g.L.Line.view g.N.NodeLine.state g.N.NodeLine.gives g.N.NodeLine.asks g.C.Clock.gives g.C.Clock.view c.args.self.now c.args.self.now.ended c.conversations_find_spent_last.ensures
    (c.number-number.ensures.legal hub seated.own) (c.number-number.ensures.safe hub seated.own) c.number-number.ensures.exact seated.served

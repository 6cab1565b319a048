use Rattle.std.specs.Prelude.{Option, Some}
use Rattle.std.proofs.Common.{subst, sym}
use Rattle.hub_serving.specs.declared.seats.Seat.{Seat}
use Rattle.hub_serving.proofs.SeatedLemmas.{At, Still}
use Rattle.hub_serving.proofs.seats.places.rest_here.Goals as goal

pub returns-in-Some-clause-still : goal.returns-in-Some-clause-still
returns-in-Some-clause-still g c = λ hub.
    let R = Still {L = g.row.L.Denot} {N = g.row.N.Denot} {S = g.N.NodeLine.State} {C = g.row.C.Denot} hub g.L.Line.view g.N.NodeLine.state g.N.NodeLine.gives g.N.NodeLine.asks g.C.Clock.gives g.C.Clock.view in
    subst (λ (o : Option (Seat g.row.L.Denot g.row.N.Denot g.row.C.Denot)). R o (Some c.rest.new.self)) (sym c.in-Some.is) (c.rest.ensures.still hub)

pub returns-in-Some-clause-seated : goal.returns-in-Some-clause-seated
returns-in-Some-clause-seated g c = λ hub clock seated.
    (c.rest.ensures.still hub).seated clock (subst (At {L = g.row.L.Denot} {N = g.row.N.Denot} {S = g.N.NodeLine.State} {C = g.row.C.Denot} hub g.L.Line.view g.N.NodeLine.state g.N.NodeLine.gives g.N.NodeLine.asks g.C.Clock.gives g.C.Clock.view clock) c.in-Some.is seated)

use Rattle.std.proofs.Common.{◌<◌, length, arith, subst}
use Rattle.std.specs.Prelude.{Option}
use Rattle.hub_serving.specs.declared.seats.Seat.{Seat}
use Rattle.hub_workers.specs.SharedClock.{not_asked}
use Rattle.hub_serving.proofs.SeatedLemmas.{At, Stays, at_on, stays_more, stays_right, stays_same}
use Rattle.hub_serving.proofs.TableLemmas.{zip_on, zip_right, zip_start}
use Rattle.hub_serving.proofs.seats.places.Places.step.Goals as goal

pub returns-then-place-len-clause-on : goal.returns-then-place-len-clause-on
returns-then-place-len-clause-on g c =
    let P = At {L = g.row.L.Denot} {N = g.row.N.Denot} {S = g.N.NodeLine.State} {C = g.row.C.Denot} c.args.hub.now g.L.Line.view g.N.NodeLine.state g.N.NodeLine.gives g.N.NodeLine.asks g.C.Clock.gives g.C.Clock.view c.args.clock.now in
    let R = Stays {L = g.row.L.Denot} {N = g.row.N.Denot} {S = g.N.NodeLine.State} {C = g.row.C.Denot} c.args.hub.now g.L.Line.view g.N.NodeLine.state g.N.NodeLine.gives g.N.NodeLine.asks g.C.Clock.gives g.C.Clock.view c.args.clock.now in
    zip_start P R (stays_same {L = g.row.L.Denot} {N = g.row.N.Denot} {S = g.N.NodeLine.State} {C = g.row.C.Denot} c.args.hub.now g.L.Line.view g.N.NodeLine.state g.N.NodeLine.gives g.N.NodeLine.asks g.C.Clock.gives g.C.Clock.view c.args.clock.now) c.args.self.now.seats.items c.requires.seated

pub returns-then-place-len-clause-asked : goal.returns-then-place-len-clause-asked
returns-then-place-len-clause-asked g c = not_asked

pub returns-clause-on : goal.returns-clause-on
returns-clause-on g c =
    let later = c.step_here.new.clock in
    let P = At {L = g.row.L.Denot} {N = g.row.N.Denot} {S = g.N.NodeLine.State} {C = g.row.C.Denot} c.args.hub.now g.L.Line.view g.N.NodeLine.state g.N.NodeLine.gives g.N.NodeLine.asks g.C.Clock.gives g.C.Clock.view later in
    let R = Stays {L = g.row.L.Denot} {N = g.row.N.Denot} {S = g.N.NodeLine.State} {C = g.row.C.Denot} c.args.hub.now g.L.Line.view g.N.NodeLine.state g.N.NodeLine.gives g.N.NodeLine.asks g.C.Clock.gives g.C.Clock.view later in
    let below : c.args.place < length c.args.self.now.seats.items =
    omega (arith, c.if-place-len.false, c.len.ensures, c.args.self.now.seats.ok.0) in
    zip_on R (stays_more {L = g.row.L.Denot} {N = g.row.N.Denot} {S = g.N.NodeLine.State} {C = g.row.C.Denot} c.args.hub.now g.L.Line.view g.N.NodeLine.state g.N.NodeLine.gives g.N.NodeLine.asks g.C.Clock.gives g.C.Clock.view later) c.args.self.now.seats.items c.args.self.now.seats.items c.args.place _ c.step_here.new.seat
    (zip_start P R (stays_same {L = g.row.L.Denot} {N = g.row.N.Denot} {S = g.N.NodeLine.State} {C = g.row.C.Denot} c.args.hub.now g.L.Line.view g.N.NodeLine.state g.N.NodeLine.gives g.N.NodeLine.asks g.C.Clock.gives g.C.Clock.view later) c.args.self.now.seats.items
    (λ k d inside. at_on {L = g.row.L.Denot} {N = g.row.N.Denot} {S = g.N.NodeLine.State} {C = g.row.C.Denot} c.args.hub.now g.L.Line.view g.N.NodeLine.state g.N.NodeLine.gives g.N.NodeLine.asks g.C.Clock.gives g.C.Clock.view c.args.clock.now later _ c.step_here.ensures.asked (c.requires.seated k d inside)))
    below
    (subst (λ (o : Option (Seat g.row.L.Denot g.row.N.Denot g.row.C.Denot)). R o c.step_here.new.seat) c.index_mut.ensures.value c.step_here.ensures.on)

pub returns-clause-seated : goal.returns-clause-seated
returns-clause-seated g c =
    let later = c.step_here.new.clock in
    zip_right (At {L = g.row.L.Denot} {N = g.row.N.Denot} {S = g.N.NodeLine.State} {C = g.row.C.Denot} c.args.hub.now g.L.Line.view g.N.NodeLine.state g.N.NodeLine.gives g.N.NodeLine.asks g.C.Clock.gives g.C.Clock.view later) (Stays {L = g.row.L.Denot} {N = g.row.N.Denot} {S = g.N.NodeLine.State} {C = g.row.C.Denot} c.args.hub.now g.L.Line.view g.N.NodeLine.state g.N.NodeLine.gives g.N.NodeLine.asks g.C.Clock.gives g.C.Clock.view later)
    (stays_right {L = g.row.L.Denot} {N = g.row.N.Denot} {S = g.N.NodeLine.State} {C = g.row.C.Denot} c.args.hub.now g.L.Line.view g.N.NodeLine.state g.N.NodeLine.gives g.N.NodeLine.asks g.C.Clock.gives g.C.Clock.view later) c.args.self.now.seats.items _ (returns-clause-on g c)

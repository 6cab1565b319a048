use Rattle.std.proofs.Common.{◌<◌, arith, length, subst, sym}
use Rattle.hub_serving.proofs.SeatedLemmas.{At}
use Rattle.hub_serving.proofs.TableLemmas.{all_put}
use Rattle.hub_serving.proofs.seats.places.Places.sit.Goals as goal

pub returns-clause-seated : goal.returns-clause-seated
returns-clause-seated g c = λ hub clock all seated.
    let P = At {L = g.row.L.Denot} {N = g.row.N.Denot} {S = g.N.NodeLine.State} {C = g.row.C.Denot} hub g.L.Line.view g.N.NodeLine.state g.N.NodeLine.gives g.N.NodeLine.asks g.C.Clock.gives g.C.Clock.view clock in
    let below : c.args.place < length c.grow.new.self.seats.items =
    omega (arith, c.if-place-len.false, c.len.ensures, c.grow.new.self.seats.ok.0) in
    all_put P c.grow.new.self.seats.items c.args.place c.replace.new.self below (subst P (sym c.replace.ensures.after) seated)
    (c.grow.ensures.seated hub clock all)

use Rattle.std.proofs.Common.{subst, sym}
use Rattle.std.proofs.lemmas.List.Elements.{All-push}
use Rattle.std.specs.Prelude.{All, get_or, is_ok}
use Rattle.hub_serving.specs.Tables.{IsSeated}
use Rattle.trial_faults.proofs.TableLemmas.{holds_of_either}
use Rattle.trial_faults.proofs.table.sit.Goals as goal

pub returns : goal.returns
returns g c =
    let P = IsSeated {L = g.row.L.Denot} {N = g.row.N.Denot} {C = g.row.C.Denot} c.args.hub.now g.L.Line.view g.N.NodeLine.state g.N.NodeLine.gives g.N.NodeLine.asks g.C.Clock.gives g.C.Clock.view c.new-seat.new.clock in
    let before : All P c.args.seats.now.items = λ i d lt.
    c.seats_stay_seated.ensures c.args.hub.now (get_or c.args.seats.now.items i d) c.args.clock.now c.new-seat.new.clock c.new-seat.ensures.asked
    (c.requires.seated i d lt) in
    subst (All P) (sym c.push.ensures.items)
    (holds_of_either (All P) (is_ok c.push.result) _ _
    (All-push P c.args.seats.now.items c.new-seat.result before (c.new-seat.ensures.seated c.args.hub.now c.requires.own)) before)

use Rattle.std.proofs.Common.{◌<◌, ℕ, ◌∙◌, Global, Vec, length, refl, subst, sym}
use Rattle.std.specs.Prelude.{get_or}
use Rattle.std.specs.List.{AllZip}
use Rattle.hub_serving.specs.declared.seats.Seat.{Seat}
use Rattle.hub_workers.specs.ClockLaws.{asked_more}
use Rattle.hub_serving.proofs.SeatedLemmas.{sits_on}
use Rattle.hub_workers.specs.SharedClock.{Asked, not_asked}
use Rattle.hub_serving.specs.Tables.{IsSeated, SitsOn}
use Rattle.hub_serving.proofs.TableLemmas.{zip_map, zip_on, zip_right, zip_start}
use Rattle.hub_serving.proofs.seats.round.Goals as goal
use Rattle.hub_serving.proofs.seats.round.Goals.{then-place-len, else-place-len}

pub loop-place-init : goal.loop-place-init
loop-place-init g c = record {
  on = zip_start (IsSeated c.args.hub.now g.L.Line.view g.N.NodeLine.state g.N.NodeLine.gives g.N.NodeLine.asks g.C.Clock.gives g.C.Clock.view c.args.clock.now)
      (SitsOn c.args.hub.now g.L.Line.view g.N.NodeLine.state g.N.NodeLine.gives g.N.NodeLine.asks g.C.Clock.gives g.C.Clock.view c.args.clock.now)
      (λ x seated. record { same = refl; seated = seated }) c.args.seats.now.items c.requires.seated;
  asked = not_asked;
  room = c.requires.room;
}

pub step-requires-clause-seated : goal.step-requires-clause-seated
step-requires-clause-seated g c =
    let P = IsSeated {L = g.row.L.Denot} {N = g.row.N.Denot} {C = g.row.C.Denot} c.args.hub.now g.L.Line.view g.N.NodeLine.state g.N.NodeLine.gives g.N.NodeLine.asks g.C.Clock.gives g.C.Clock.view c.loop-place.clock in
    let R = SitsOn {L = g.row.L.Denot} {N = g.row.N.Denot} {C = g.row.C.Denot} c.args.hub.now g.L.Line.view g.N.NodeLine.state g.N.NodeLine.gives g.N.NodeLine.asks g.C.Clock.gives g.C.Clock.view c.loop-place.clock in
    let below : get_or c.args.ready.now c.loop-place.place-index 0 < length c.loop-place.seats.items =
    subst (λ (n : ℕ). get_or c.args.ready.now c.loop-place.place-index 0 < n) (c.len.ensures ∙ c.loop-place.seats.ok.0) c.if-place-len.true in
    subst P (sym c.index_mut.ensures.value)
    (zip_right P R (λ x y on. on.seated) c.args.seats.now.items c.loop-place.seats.items c.loop-place.invariant.on (get_or c.args.ready.now c.loop-place.place-index 0) _ below)

pub loop-place-preserved : goal.loop-place-preserved
loop-place-preserved g c =
    let room : 0 < length c.if-place-len.buffer = subst (λ (n : ℕ). 0 < n) (sym c.if-place-len.auto.buffer) c.loop-place.invariant.room in
    elim c.if-place-len.branch [
      | then-place-len w ↦
          let Q = SitsOn {L = g.row.L.Denot} {N = g.row.N.Denot} {C = g.row.C.Denot} c.args.hub.now g.L.Line.view g.N.NodeLine.state g.N.NodeLine.gives g.N.NodeLine.asks g.C.Clock.gives g.C.Clock.view c.loop-place.clock in
          let R = SitsOn {L = g.row.L.Denot} {N = g.row.N.Denot} {C = g.row.C.Denot} c.args.hub.now g.L.Line.view g.N.NodeLine.state g.N.NodeLine.gives g.N.NodeLine.asks g.C.Clock.gives g.C.Clock.view w.step.new.clock in
          let below : get_or c.args.ready.now c.loop-place.place-index 0 < length c.loop-place.seats.items =
          subst (λ (n : ℕ). get_or c.args.ready.now c.loop-place.place-index 0 < n) (c.len.ensures ∙ c.loop-place.seats.ok.0) w.if-place-len.true in
          record {
            on = subst (λ (k : g.row.C.Denot). AllZip (SitsOn {L = g.row.L.Denot} {N = g.row.N.Denot} {C = g.row.C.Denot} c.args.hub.now g.L.Line.view g.N.NodeLine.state g.N.NodeLine.gives g.N.NodeLine.asks g.C.Clock.gives g.C.Clock.view k) c.args.seats.now.items c.if-place-len.seats.items) (sym w.clock-is) (subst (λ (v : Vec (Seat g.row.L.Denot g.row.N.Denot g.row.C.Denot) Global). AllZip R c.args.seats.now.items v.items) (sym w.seats-is)
                (zip_on R (λ x y z p q. record { same = q.same ∙ p.same; seated = q.seated }) c.args.seats.now.items c.loop-place.seats.items
                (get_or c.args.ready.now c.loop-place.place-index 0) _ w.step.new.self
                (zip_map Q R (λ x y on. sits_on c.args.hub.now g.L.Line.view g.N.NodeLine.state g.N.NodeLine.gives g.N.NodeLine.asks g.C.Clock.gives g.C.Clock.view c.loop-place.clock w.step.new.clock x y w.step.ensures.asked on)
                c.args.seats.now.items c.loop-place.seats.items c.loop-place.invariant.on) below
                (subst (λ (s : Seat g.row.L.Denot g.row.N.Denot g.row.C.Denot). R s w.step.new.self) w.index_mut.ensures.value w.step.ensures.on)));
            asked = subst (λ (k : g.row.C.Denot). Asked g.C.Clock.gives g.C.Clock.view c.args.clock.now k) (sym w.clock-is) (asked_more g.C.Clock.gives g.C.Clock.view c.args.clock.now c.loop-place.clock w.step.new.clock c.loop-place.invariant.asked w.step.ensures.asked);
            room = room;
          }
      | else-place-len w ↦ record {
        on = subst (λ (k : g.row.C.Denot). AllZip (SitsOn {L = g.row.L.Denot} {N = g.row.N.Denot} {C = g.row.C.Denot} c.args.hub.now g.L.Line.view g.N.NodeLine.state g.N.NodeLine.gives g.N.NodeLine.asks g.C.Clock.gives g.C.Clock.view k) c.args.seats.now.items c.if-place-len.seats.items) (sym w.clock-is) (subst (λ (v : Vec (Seat g.row.L.Denot g.row.N.Denot g.row.C.Denot) Global). AllZip (SitsOn {L = g.row.L.Denot} {N = g.row.N.Denot} {C = g.row.C.Denot} c.args.hub.now g.L.Line.view g.N.NodeLine.state g.N.NodeLine.gives g.N.NodeLine.asks g.C.Clock.gives g.C.Clock.view c.loop-place.clock) c.args.seats.now.items v.items) (sym w.seats-is) c.loop-place.invariant.on);
        asked = subst (λ (k : g.row.C.Denot). Asked g.C.Clock.gives g.C.Clock.view c.args.clock.now k) (sym w.clock-is) c.loop-place.invariant.asked;
        room = room;
      }
    ]

pub returns-clause-seated : goal.returns-clause-seated
returns-clause-seated g c =
    zip_right (IsSeated c.args.hub.now g.L.Line.view g.N.NodeLine.state g.N.NodeLine.gives g.N.NodeLine.asks g.C.Clock.gives g.C.Clock.view c.loop-place.clock)
    (SitsOn c.args.hub.now g.L.Line.view g.N.NodeLine.state g.N.NodeLine.gives g.N.NodeLine.asks g.C.Clock.gives g.C.Clock.view c.loop-place.clock)
    (λ x y on. on.seated) c.args.seats.now.items c.loop-place.seats.items c.loop-place.invariant.on

use Rattle.std.proofs.Common.{ℕ, subst, sym}
use Rattle.trial_desk.specs.Holds.{IsReservation}
use Rattle.trial_desk.proofs.KeptLemmas.{put-in, left-alone}
use Rattle.trial_desk.proofs.drawers.Drawers.keep_reservation.Goals as goal

pub returns-in-Ok : goal.returns-in-Ok
returns-in-Ok c = λ H held good. record {
  tickets_good = held.tickets_good;
  reservations_good = put-in (IsReservation H) c.args.self.now.reservations c.insert.new.self c.request.result c.args.reservation c.in-Ok.ensures.updates held.reservations_good (subst (λ (k : ℕ). IsReservation H k c.args.reservation) (sym (c.request.ensures)) good);
  closings_good = held.closings_good;
}

pub returns : goal.returns
returns c = λ H held good. record {
  tickets_good = held.tickets_good;
  reservations_good = left-alone (IsReservation H) c.args.self.now.reservations c.insert.new.self c.in-Err.ensures.err held.reservations_good;
  closings_good = held.closings_good;
}

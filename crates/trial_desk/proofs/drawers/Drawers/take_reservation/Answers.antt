use Rattle.trial_desk.specs.Holds.{IsReservation}
use Rattle.trial_desk.proofs.KeptLemmas.{taken-out}
use Rattle.trial_desk.proofs.drawers.Drawers.take_reservation.Goals as goal

pub returns-clause-stays : goal.returns-clause-stays
returns-clause-stays c = λ H held. record {
  tickets_good = held.tickets_good;
  reservations_good = taken-out (IsReservation H) c.args.self.now.reservations c.remove.new.self c.args.request c.remove.ensures.updates held.reservations_good;
  closings_good = held.closings_good;
}

use Rattle.trial_desk.specs.Holds.{IsTicket}
use Rattle.trial_desk.proofs.KeptLemmas.{taken-out}
use Rattle.trial_desk.proofs.drawers.Drawers.take_ticket.Goals as goal

pub returns-clause-stays : goal.returns-clause-stays
returns-clause-stays c = λ H held. record {
  tickets_good = taken-out (IsTicket H) c.args.self.now.tickets c.remove.new.self c.args.request c.remove.ensures.updates held.tickets_good;
  reservations_good = held.reservations_good;
  closings_good = held.closings_good;
}

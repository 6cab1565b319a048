use Rattle.trial_desk.specs.Holds.{IsClosing}
use Rattle.trial_desk.proofs.KeptLemmas.{taken-out}
use Rattle.trial_desk.proofs.drawers.Drawers.take_closing.Goals as goal

pub returns-clause-stays : goal.returns-clause-stays
returns-clause-stays c = λ H held. record {
  tickets_good = held.tickets_good;
  reservations_good = held.reservations_good;
  closings_good = taken-out (IsClosing H) c.args.self.now.closings c.remove.new.self c.place_of.result c.remove.ensures.updates held.closings_good;
}

use Rattle.grid_keeper.specs.Holds.{IsReservation}
use Rattle.grid_keeper.proofs.KeptLemmas.{taken-out}
use Rattle.std.proofs.Common.{nat_eq}
use Rattle.grid_keeper.proofs.TableLemmas.{not_both, out_stays}
use Rattle.grid_keeper.proofs.left.Left.take_reservation.Goals as goal

pub returns-clause-stays : goal.returns-clause-stays
returns-clause-stays c = λ H held. record {
  tickets_good = held.tickets_good;
  reservations_good = taken-out (IsReservation H) c.args.self.now.reservations c.remove.new.self c.args.request c.remove.ensures.updates held.reservations_good;
  closings_good = held.closings_good;
}

pub returns-clause-others : goal.returns-clause-others
returns-clause-others c = λ wanted all. record {
  tickets = all.tickets;
  reservations = λ r s want.
      let split = not_both (nat_eq c.args.request r) (wanted.reservations r s) want in
      out_stays c.args.self.now.reservations c.remove.new.self c.args.request r c.remove.ensures.updates split.0 (all.reservations r s split.1);
  closings = all.closings;
}

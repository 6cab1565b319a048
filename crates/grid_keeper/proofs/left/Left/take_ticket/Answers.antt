use Rattle.grid_keeper.specs.Holds.{IsTicket}
use Rattle.grid_keeper.proofs.KeptLemmas.{taken-out}
use Rattle.std.proofs.Common.{nat_eq}
use Rattle.grid_keeper.proofs.TableLemmas.{not_both, out_stays}
use Rattle.grid_keeper.proofs.left.Left.take_ticket.Goals as goal

pub returns-clause-stays : goal.returns-clause-stays
returns-clause-stays c = λ H held. record {
  tickets_good = taken-out (IsTicket H) c.args.self.now.tickets c.remove.new.self c.args.request c.remove.ensures.updates held.tickets_good;
  reservations_good = held.reservations_good;
  closings_good = held.closings_good;
}

pub returns-clause-others : goal.returns-clause-others
returns-clause-others c = λ wanted all. record {
  tickets = λ r want.
      let split = not_both (nat_eq c.args.request r) (wanted.tickets r) want in
      out_stays c.args.self.now.tickets c.remove.new.self c.args.request r c.remove.ensures.updates split.0 (all.tickets r split.1);
  reservations = all.reservations;
  closings = all.closings;
}

use Rattle.std.proofs.Common.{ℕ, subst, sym}
use Rattle.grid_keeper.specs.Holds.{IsTicket}
use Rattle.grid_keeper.proofs.KeptLemmas.{put-in, left-alone}
use Rattle.std.specs.Prelude.{IsSome}
use Rattle.std.specs.Ordering.{nat_cmp}
use Rattle.std.specs.BTreeMap.{get}
use Rattle.grid_keeper.proofs.TableLemmas.{own_there, put_stays, same_stays}
use Rattle.grid_keeper.proofs.left.Left.keep_ticket.Goals as goal

pub returns-in-Ok-clause-stays : goal.returns-in-Ok-clause-stays
returns-in-Ok-clause-stays c = λ H held good. record {
  tickets_good = put-in (IsTicket H) c.args.self.now.tickets c.insert.new.self c.request.result c.args.ticket c.in-Ok.ensures.updates held.tickets_good (subst (λ (k : ℕ). IsTicket H k c.args.ticket) (sym (c.request.ensures)) good);
  reservations_good = held.reservations_good;
  closings_good = held.closings_good;
}

pub returns-in-Err-clause-stays : goal.returns-in-Err-clause-stays
returns-in-Err-clause-stays c = λ H held good. record {
  tickets_good = left-alone (IsTicket H) c.args.self.now.tickets c.insert.new.self c.in-Err.ensures.err held.tickets_good;
  reservations_good = held.reservations_good;
  closings_good = held.closings_good;
}

pub returns-in-Ok-clause-more : goal.returns-in-Ok-clause-more
returns-in-Ok-clause-more c = λ wanted all. record {
  tickets = λ r want. put_stays c.args.self.now.tickets c.insert.new.self c.request.result c.args.ticket r c.in-Ok.ensures.updates (all.tickets r want);
  reservations = all.reservations;
  closings = all.closings;
}

pub returns-in-Err-clause-more : goal.returns-in-Err-clause-more
returns-in-Err-clause-more c = λ wanted all. record {
  tickets = λ r want. same_stays c.args.self.now.tickets c.insert.new.self r c.in-Err.ensures.err (all.tickets r want);
  reservations = all.reservations;
  closings = all.closings;
}

pub returns-in-Ok-clause-has : goal.returns-in-Ok-clause-has
returns-in-Ok-clause-has c = subst (λ (n : ℕ). IsSome (get nat_cmp c.insert.new.self n)) c.request.ensures (own_there c.args.self.now.tickets c.insert.new.self c.request.result c.args.ticket c.in-Ok.ensures.updates)

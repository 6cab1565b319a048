use Rattle.std.proofs.Common.{ℕ, subst, sym}
use Rattle.grid_keeper.specs.Holds.{IsReservation}
use Rattle.grid_keeper.proofs.KeptLemmas.{put-in, left-alone}
use Rattle.std.specs.Prelude.{IsSome}
use Rattle.std.specs.Ordering.{nat_cmp}
use Rattle.std.specs.BTreeMap.{get}
use Rattle.grid_keeper.proofs.TableLemmas.{own_there, put_stays, same_stays}
use Rattle.grid_keeper.proofs.left.Left.keep_reservation.Goals as goal

pub returns-in-Ok-clause-stays : goal.returns-in-Ok-clause-stays
returns-in-Ok-clause-stays c = λ H held good. record {
  tickets_good = held.tickets_good;
  reservations_good = put-in (IsReservation H) c.args.self.now.reservations c.insert.new.self c.request.result c.args.reservation c.in-Ok.ensures.updates held.reservations_good (subst (λ (k : ℕ). IsReservation H k c.args.reservation) (sym (c.request.ensures)) good);
  closings_good = held.closings_good;
}

pub returns-clause-stays : goal.returns-clause-stays
returns-clause-stays c = λ H held good. record {
  tickets_good = held.tickets_good;
  reservations_good = left-alone (IsReservation H) c.args.self.now.reservations c.insert.new.self c.in-Err.ensures.err held.reservations_good;
  closings_good = held.closings_good;
}

pub returns-in-Ok-clause-more : goal.returns-in-Ok-clause-more
returns-in-Ok-clause-more c = λ wanted all. record {
  reservations = λ r s want. put_stays c.args.self.now.reservations c.insert.new.self c.request.result c.args.reservation r c.in-Ok.ensures.updates (all.reservations r s want);
  tickets = all.tickets;
  closings = all.closings;
}

pub returns-clause-more : goal.returns-clause-more
returns-clause-more c = λ wanted all. record {
  reservations = λ r s want. same_stays c.args.self.now.reservations c.insert.new.self r c.in-Err.ensures.err (all.reservations r s want);
  tickets = all.tickets;
  closings = all.closings;
}

pub returns-in-Ok-clause-has : goal.returns-in-Ok-clause-has
returns-in-Ok-clause-has c = subst (λ (n : ℕ). IsSome (get nat_cmp c.insert.new.self n)) c.request.ensures (own_there c.args.self.now.reservations c.insert.new.self c.request.result c.args.reservation c.in-Ok.ensures.updates)

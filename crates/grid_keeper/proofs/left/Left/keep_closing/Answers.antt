use Rattle.std.proofs.Common.{ℕ, subst, sym, ap, ◌∙◌}
use Rattle.grid_keeper.specs.Holds.{place_of, IsClosing}
use Rattle.grid_keeper.proofs.KeptLemmas.{put-in, left-alone}
use Rattle.std.specs.Prelude.{IsSome}
use Rattle.std.specs.Ordering.{nat_cmp}
use Rattle.std.specs.BTreeMap.{get}
use Rattle.grid_keeper.proofs.TableLemmas.{own_there, put_stays, same_stays}
use Rattle.grid_keeper.proofs.left.Left.keep_closing.Goals as goal

pub returns-in-Ok-clause-stays : goal.returns-in-Ok-clause-stays
returns-in-Ok-clause-stays c = λ H held good. record {
  tickets_good = held.tickets_good;
  reservations_good = held.reservations_good;
  closings_good = put-in (IsClosing H) c.args.self.now.closings c.insert.new.self c.place_of.result c.args.closing c.in-Ok.ensures.updates held.closings_good (subst (λ (k : ℕ). IsClosing H k c.args.closing) (sym (c.place_of.ensures ∙ ap place_of c.slot.ensures)) good);
}

pub returns-in-Err-clause-stays : goal.returns-in-Err-clause-stays
returns-in-Err-clause-stays c = λ H held good. record {
  tickets_good = held.tickets_good;
  reservations_good = held.reservations_good;
  closings_good = left-alone (IsClosing H) c.args.self.now.closings c.insert.new.self c.in-Err.ensures.err held.closings_good;
}

pub returns-in-Ok-clause-more : goal.returns-in-Ok-clause-more
returns-in-Ok-clause-more c = λ wanted all. record {
  closings = λ s few want. put_stays c.args.self.now.closings c.insert.new.self c.place_of.result c.args.closing (place_of s) c.in-Ok.ensures.updates (all.closings s few want);
  tickets = all.tickets;
  reservations = all.reservations;
}

pub returns-in-Err-clause-more : goal.returns-in-Err-clause-more
returns-in-Err-clause-more c = λ wanted all. record {
  closings = λ s few want. same_stays c.args.self.now.closings c.insert.new.self (place_of s) c.in-Err.ensures.err (all.closings s few want);
  tickets = all.tickets;
  reservations = all.reservations;
}

pub returns-in-Ok-clause-has : goal.returns-in-Ok-clause-has
returns-in-Ok-clause-has c = subst (λ (n : ℕ). IsSome (get nat_cmp c.insert.new.self n)) (c.place_of.ensures ∙ ap place_of c.slot.ensures) (own_there c.args.self.now.closings c.insert.new.self c.place_of.result c.args.closing c.in-Ok.ensures.updates)

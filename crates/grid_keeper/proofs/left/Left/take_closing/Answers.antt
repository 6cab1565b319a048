use Rattle.grid_keeper.specs.Holds.{IsClosing}
use Rattle.grid_keeper.proofs.KeptLemmas.{taken-out}
use Rattle.std.proofs.Common.{◌≡◌, ◌<◌, ℕ, false, nat_eq, subst, sym}
use Rattle.grid_keeper.proofs.TableLemmas.{not_both, out_stays, places_apart}
use Rattle.grid_types.specs.Slots.{slot_eq}
use Rattle.grid_keeper.specs.Holds.{place_of}
use Rattle.grid_keeper.proofs.left.Left.take_closing.Goals as goal

pub returns-clause-stays : goal.returns-clause-stays
returns-clause-stays c = λ H held. record {
  tickets_good = held.tickets_good;
  reservations_good = held.reservations_good;
  closings_good = taken-out (IsClosing H) c.args.self.now.closings c.remove.new.self c.place_of.result c.remove.ensures.updates held.closings_good;
}

pub returns-clause-others : goal.returns-clause-others
returns-clause-others c = λ wanted all. record {
  tickets = all.tickets;
  reservations = all.reservations;
  closings = λ s few want.
      let split = not_both (slot_eq c.args.slot s) (wanted.closings s) want in
      let small = subst (λ (n : ℕ). n < 65_536) c.index_of-index.ensures c.index_of-index.type_inv in
      let apart = places_apart c.args.slot s small few split.0 in
      out_stays c.args.self.now.closings c.remove.new.self c.place_of.result (place_of s) c.remove.ensures.updates (subst (λ (p : ℕ). nat_eq p (place_of s) ≡ false) (sym c.place_of.ensures) apart) (all.closings s few split.1);
}

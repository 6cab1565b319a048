use Rattle.std.proofs.Common.{◌<◌, ◌∙◌, ℕ, ap, None, refl, subst, sym}
use Rattle.std.specs.Ordering.{nat_cmp}
use Rattle.std.specs.BTreeMap.{Updates}
use Rattle.grid_types.specs.declared.names.SlotId.{SlotId}
use Rattle.grid_types.specs.Slots.{slot_eq}
use Rattle.grid_keeper.specs.Holds.{place_of, IsClosing}
use Rattle.grid_keeper.proofs.KeptLemmas.{taken-out-of}
use Rattle.grid_keeper.proofs.TableLemmas.{not_both, out_stays_of, gone_from, places_apart}
use Rattle.grid_keeper.proofs.left.Left.pop_closing.Goals as goal

pub returns-in-Some-clause-pops : goal.returns-in-Some-clause-pops
returns-in-Some-clause-pops c = λ H held.
    let t = c.in-Some.closing in
    let old = c.args.self.now.closings in
    let new = c.pop_first.new.self in
    let was = held.closings_good c.in-Some.field-0-0 t c.in-Some.ensures.value in
    let updates = subst (λ (n : ℕ). Updates nat_cmp old new n None) (sym was.0) c.in-Some.ensures.updates in
    let small = subst (λ (n : ℕ). n < 65_536) (c.index_of-index.ensures ∙ ap (λ (s : SlotId). s.index) c.slot.ensures) c.index_of-index.type_inv in
    record {
      good = (refl, was.1);
      holds = record {
        tickets_good = held.tickets_good;
        reservations_good = held.reservations_good;
        closings_good = taken-out-of (IsClosing H) old new (place_of t.slot) updates held.closings_good;
      };
      gone = gone_from old new (place_of t.slot) updates;
      others = λ wanted all. record {
        tickets = all.tickets;
        reservations = all.reservations;
        closings = λ s few want.
            let split = not_both (slot_eq t.slot s) (wanted.closings s) want in
            out_stays_of old new (place_of t.slot) (place_of s) updates (places_apart t.slot s small few split.0) (all.closings s few split.1);
      };
    }

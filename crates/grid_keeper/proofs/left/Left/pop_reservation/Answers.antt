use Rattle.std.proofs.Common.{ℕ, nat_eq, None, refl, subst, sym}
use Rattle.std.specs.Ordering.{nat_cmp}
use Rattle.std.specs.BTreeMap.{Updates}
use Rattle.grid_keeper.specs.Holds.{IsReservation}
use Rattle.grid_keeper.proofs.KeptLemmas.{taken-out-of}
use Rattle.grid_keeper.proofs.TableLemmas.{not_both, out_stays_of, gone_from}
use Rattle.grid_keeper.proofs.left.Left.pop_reservation.Goals as goal

pub returns-in-Some : goal.returns-in-Some
returns-in-Some c = λ H held.
    let t = c.in-Some.reservation in
    let old = c.args.self.now.reservations in
    let new = c.pop_first.new.self in
    let was = held.reservations_good c.in-Some.field-0-0 t c.in-Some.ensures.value in
    let updates = subst (λ (n : ℕ). Updates nat_cmp old new n None) (sym was.0) c.in-Some.ensures.updates in
    record {
      good = (refl, was.1, was.2);
      holds = record {
        tickets_good = held.tickets_good;
        reservations_good = taken-out-of (IsReservation H) old new t.request updates held.reservations_good;
        closings_good = held.closings_good;
      };
      gone = gone_from old new t.request updates;
      others = λ wanted all. record {
        tickets = all.tickets;
        reservations = λ r s want.
            let split = not_both (nat_eq t.request r) (wanted.reservations r s) want in
            out_stays_of old new t.request r updates split.0 (all.reservations r s split.1);
        closings = all.closings;
      };
    }

use Rattle.std.proofs.Common.{ℕ, nat_eq, None, refl, subst, sym}
use Rattle.std.specs.Ordering.{nat_cmp}
use Rattle.std.specs.BTreeMap.{Updates}
use Rattle.grid_keeper.specs.Holds.{IsTicket}
use Rattle.grid_keeper.proofs.KeptLemmas.{taken-out-of}
use Rattle.grid_keeper.proofs.TableLemmas.{not_both, out_stays_of, gone_from}
use Rattle.grid_keeper.proofs.left.Left.pop_ticket.Goals as goal

pub returns-in-Some-clause-pops : goal.returns-in-Some-clause-pops
returns-in-Some-clause-pops c = λ H held.
    let t = c.in-Some.ticket in
    let old = c.args.self.now.tickets in
    let new = c.pop_first.new.self in
    let was = held.tickets_good c.in-Some.field-0-0 t c.in-Some.ensures.value in
    let updates = subst (λ (n : ℕ). Updates nat_cmp old new n None) (sym was.0) c.in-Some.ensures.updates in
    record {
      good = (refl, was.1, was.2);
      holds = record {
        tickets_good = taken-out-of (IsTicket H) old new t.request updates held.tickets_good;
        reservations_good = held.reservations_good;
        closings_good = held.closings_good;
      };
      gone = gone_from old new t.request updates;
      others = λ wanted all. record {
        tickets = λ r want.
            let split = not_both (nat_eq t.request r) (wanted.tickets r) want in
            out_stays_of old new t.request r updates split.0 (all.tickets r split.1);
        reservations = all.reservations;
        closings = all.closings;
      };
    }

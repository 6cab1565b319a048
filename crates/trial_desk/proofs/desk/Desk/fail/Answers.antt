use Rattle.std.specs.Ordering.{nat_cmp}
use Rattle.std.specs.BTreeMap.{get}
use Rattle.trial_desk.proofs.HoldsLemmas.{served, absent}
use Rattle.trial_desk.proofs.desk.Desk.fail.Goals as goal

pub invariant_of-self-2 : goal.invariant_of-self-2
invariant_of-self-2 c =
    let good = c.in-Some.ensures.good _ c.self.invariant in
    let left = c.take_reservation.new.self in
    let gone = absent (get nat_cmp left.reservations) c.in-Some.reservation.request c.args.request good.0 c.in-Some.ensures.gone in
    served _ _ _ _ _ _ left c.fail.ensures.serves gone (c.in-Some.ensures.stays _ c.self.invariant)

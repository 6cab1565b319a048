use Rattle.std.specs.Ordering.{nat_cmp}
use Rattle.std.specs.BTreeMap.{get}
use Rattle.trial_desk.proofs.HoldsLemmas.{served, withdrawing-good, absent}
use Rattle.trial_desk.proofs.desk.Desk.withdraw.Goals as goal

pub invariant_of-self-2 : goal.invariant_of-self-2
invariant_of-self-2 c =
    let serves = c.withdraw-withdrawing.ensures.serves in
    let good = c.in-Some.ensures.good _ c.self.invariant in
    let left = c.take_ticket.new.self in
    let gone = absent (get nat_cmp left.tickets) c.in-Some.ticket.request c.args.request good.0 c.in-Some.ensures.gone in
    c.keep_withdrawing.ensures _ (served _ _ _ _ _ _ left serves gone (c.in-Some.ensures.stays _ c.self.invariant))
    (withdrawing-good _ _ _ _ _ _ serves)

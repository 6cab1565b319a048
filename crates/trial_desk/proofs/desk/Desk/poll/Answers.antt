use Rattle.std.specs.Ordering.{nat_cmp}
use Rattle.std.specs.BTreeMap.{get}
use Rattle.trial_desk.proofs.HoldsLemmas.{served, polled-good, absent}
use Rattle.trial_desk.proofs.desk.Desk.poll.Goals as goal

pub invariant_of-self-2 : goal.invariant_of-self-2
invariant_of-self-2 c =
    let serves = c.poll-polled.ensures.serves.serves in
    let good = c.in-Some.ensures.good _ c.self.invariant in
    let left = c.take_ticket.new.self in
    let gone = absent (get nat_cmp left.tickets) c.in-Some.ticket.request c.args.request good.0 c.in-Some.ensures.gone in
    c.keep_polled.ensures _ (served _ _ _ _ _ _ left serves gone (c.in-Some.ensures.stays _ c.self.invariant))
    (polled-good _ _ _ c.args.request c.in-Some.ticket _ _ serves c.poll-polled.ensures.back good)

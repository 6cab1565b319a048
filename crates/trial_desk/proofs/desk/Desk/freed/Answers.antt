use Rattle.std.specs.Ordering.{nat_cmp}
use Rattle.std.specs.BTreeMap.{get}
use Rattle.trial_desk.specs.Holds.{place_of}
use Rattle.trial_desk.proofs.HoldsLemmas.{served, absent}
use Rattle.trial_desk.proofs.desk.Desk.freed.Goals as goal

pub invariant_of-self-2 : goal.invariant_of-self-2
invariant_of-self-2 c =
    let good = c.in-Some.ensures.good _ c.self.invariant in
    let left = c.take_closing.new.self in
    let gone = absent (get nat_cmp left.closings) (place_of c.in-Some.closing.slot) (place_of c.args.slot) good.0 c.in-Some.ensures.gone in
    served _ _ _ _ 0 _ left (c.freed.ensures 0).serves gone (c.in-Some.ensures.stays _ c.self.invariant)

use Rattle.trial_desk.proofs.HoldsLemmas.{served, dispatched-good}
use Rattle.trial_desk.proofs.desk.Desk.dispatch.Goals as goal

pub invariant_of-self : goal.invariant_of-self
invariant_of-self c =
    let serves = c.dispatch-dispatched.ensures.serves in
    c.keep_dispatched.ensures _ (served _ _ _ _ _ _ c.self.inside.drawers serves tt c.self.invariant) (dispatched-good _ _ _ _ _ _ serves)

use Rattle.trial_desk.proofs.HoldsLemmas.{served, roomy}
use Rattle.trial_desk.proofs.desk.Desk.remove.Goals as goal

pub invariant_of-self-2 : goal.invariant_of-self-2
invariant_of-self-2 c =
    served _ _ _ _ _ _ c.self.inside.drawers c.remove.ensures.serves tt (roomy c.self.inside.hub c.room.new.self c.self.inside.drawers c.in_ok-room.ensures.ok c.self.invariant)

use Rattle.trial_desk.proofs.HoldsLemmas.{served, ended-good, roomy}
use Rattle.trial_desk.proofs.desk.Desk.end.Goals as goal

pub invariant_of-self-2 : goal.invariant_of-self-2
invariant_of-self-2 c =
    let serves = c.end-ended.ensures.serves in
    let room = roomy c.self.inside.hub c.room.new.self c.self.inside.drawers c.in_ok-room.ensures.ok c.self.invariant in
    c.keep_ended.ensures _ (served _ _ _ _ _ _ c.self.inside.drawers serves tt room) (ended-good _ _ _ _ _ _ serves)

use Rattle.trial_desk.proofs.HoldsLemmas.{served, expired-good, roomy}
use Rattle.trial_desk.proofs.desk.Desk.expire.Goals as goal

pub invariant_of-self-2 : goal.invariant_of-self-2
invariant_of-self-2 c =
    let serves = c.expire-expired.ensures.serves in
    let room = roomy c.self.inside.hub c.room.new.self c.self.inside.drawers c.in_ok-room.ensures.ok c.self.invariant in
    c.keep_expired.ensures _ (served _ _ _ _ _ _ c.self.inside.drawers serves tt room) (expired-good _ _ _ _ _ _ serves)

use Rattle.trial_desk.proofs.HoldsLemmas.{served, enqueued-good, roomy}
use Rattle.trial_desk.proofs.desk.Desk.enqueue.Goals as goal

pub invariant_of-self-2 : goal.invariant_of-self-2
invariant_of-self-2 c =
    let serves = c.enqueue-enqueued.ensures.serves in
    let room = roomy c.self.inside.hub c.room.new.self c.self.inside.drawers c.in_ok-room.ensures.ok c.self.invariant in
    c.keep_enqueued.ensures _ (served _ _ _ _ _ _ c.self.inside.drawers serves tt room) (enqueued-good _ _ _ _ _ _ serves)

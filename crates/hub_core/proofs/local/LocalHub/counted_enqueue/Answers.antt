use Rattle.std.proofs.Common.{refl, arith, ap, ◌∙◌}
use Rattle.grid_types.specs.HubAnswers.{moment}
use Rattle.hub_core.proofs.NoteLemmas.{untouched}
use Rattle.hub_core.proofs.EnqueueLemmas.{enqueue-may}
use Rattle.hub_core.proofs.CoreEnqueueLemmas.{core-enqueue_lacks}
use Rattle.hub_core.proofs.EntriesLemmas.{queued-none}
use Rattle.hub_core.proofs.LocalLemmas.{room-place, local-silent, local-stays, local-keeps, local-writes, local-kept}
use Rattle.hub_core.proofs.LocalCallLemmas.{enqueue-goes}
use Rattle.hub_core.proofs.local.LocalHub.counted_enqueue.Goals as goal

pub returns-in_default : goal.returns-in_default
returns-in_default g c =
    let proved = c.history_laws.ensures in
    local-silent proved _ _ _ _ _ _ c.self.invariant c.self.view_is _ _ _ (enqueue-may _ _ _ c.copy_of.ensures.some c.copy_of.ensures.few) (core-enqueue_lacks proved _ _ _ _ _ (untouched _)) refl

pub write-requires : goal.write-requires
write-requires g c =
    let proved = c.history_laws.ensures in
    room-place proved _ _ _ _ _ _ _ c.self.invariant c.self.view_is c.requires.room (omega arith)

pub invariant_of-self : goal.invariant_of-self
invariant_of-self g c =
    let proved = c.history_laws.ensures in
    local-kept proved _ _ _ _ _ _ c.self.invariant c.self.view_is _ _ _ (enqueue-may _ _ _ c.copy_of.ensures.some c.copy_of.ensures.few) _ _ _ _ _ _ c.in-Queued.ensures.serves (enqueue-goes proved _ _ _ _ _ _ c.self.invariant c.self.view_is _ _ _ c.raised-now.ensures _ _ (enqueue-may _ _ _ c.copy_of.ensures.some c.copy_of.ensures.few) c.in-Queued.ensures.serves) (room-place proved _ _ _ _ _ _ _ c.self.invariant c.self.view_is c.requires.room (omega arith)) (rw (c.in-Ok.ensures.same, c.request.ensures, ap moment c.deadline.ensures) at c.write.ensures)

pub invariant_of-self-in-Unsupported-1 : goal.invariant_of-self-in-Unsupported-1
invariant_of-self-in-Unsupported-1 g c =
    let proved = c.history_laws.ensures in
    local-keeps proved _ _ _ _ _ _ c.self.invariant c.self.view_is _ _ _ (enqueue-may _ _ _ c.copy_of.ensures.some c.copy_of.ensures.few) _ c.enqueue.ensures.serves (enqueue-goes proved _ _ _ _ _ _ c.self.invariant c.self.view_is _ _ _ c.raised-now.ensures _ _ (enqueue-may _ _ _ c.copy_of.ensures.some c.copy_of.ensures.few) c.enqueue.ensures.serves ∙ queued-none _ _ _ _ _ c.in_default-enqueue.not-Queued)

pub returns-in-Queued : goal.returns-in-Queued
returns-in-Queued g c =
    let proved = c.history_laws.ensures in
    local-writes proved _ _ _ _ _ _ c.self.invariant c.self.view_is _ _ _ (enqueue-may _ _ _ c.copy_of.ensures.some c.copy_of.ensures.few) _ _ _ _ _ _ c.in-Queued.ensures.serves (enqueue-goes proved _ _ _ _ _ _ c.self.invariant c.self.view_is _ _ _ c.raised-now.ensures _ _ (enqueue-may _ _ _ c.copy_of.ensures.some c.copy_of.ensures.few) c.in-Queued.ensures.serves) (rw (c.in-Ok.ensures.same, c.request.ensures, ap moment c.deadline.ensures) at c.write.ensures)

pub returns-in_default-enqueue : goal.returns-in_default-enqueue
returns-in_default-enqueue g c =
    let proved = c.history_laws.ensures in
    local-stays proved _ _ _ _ _ _ c.self.invariant c.self.view_is _ _ _ (enqueue-may _ _ _ c.copy_of.ensures.some c.copy_of.ensures.few) _ c.enqueue.ensures.serves (enqueue-goes proved _ _ _ _ _ _ c.self.invariant c.self.view_is _ _ _ c.raised-now.ensures _ _ (enqueue-may _ _ _ c.copy_of.ensures.some c.copy_of.ensures.few) c.enqueue.ensures.serves ∙ queued-none _ _ _ _ _ c.in_default-enqueue.not-Queued)

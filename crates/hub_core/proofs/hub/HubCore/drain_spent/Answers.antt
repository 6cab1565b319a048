use Rattle.std.proofs.Common.{refl}
use Rattle.hub_core.proofs.NoteLemmas.{noted}
use Rattle.hub_core.proofs.CoreStartLemmas.{spent-not_up, spent-stays, spent-drains}
use Rattle.hub_core.proofs.hub.HubCore.drain_spent.Goals as goal
use Rattle.hub_core.proofs.hub.HubCore.drain_spent.Goals.{else-is_base_up-via-then-is_base_up+else-is_spent, else-is_base_up-via-else-is_base_up}

pub returns-then-is_spent : goal.returns-then-is_spent
returns-then-is_spent c =
    let proved = c.history_laws.ensures in
    λ k. spent-drains proved _ k _ _ _ c.is_base_up.ensures _ c.is_spent.ensures.listed c.if-is_base_up.true _ c.if-is_spent.true (noted refl (c.note_draining.ensures k))

pub returns-else-is_base_up : goal.returns-else-is_base_up
returns-else-is_base_up c =
    let proved = c.history_laws.ensures in
    elim c.else-is_base_up.branch [
      | else-is_base_up-via-then-is_base_up+else-is_spent w ↦ λ k. spent-stays proved _ k _ _ _ c.is_base_up.ensures _ w.is_spent.ensures.listed w.if-is_base_up.true w.if-is_spent.false
      | else-is_base_up-via-else-is_base_up w ↦ λ k. spent-not_up proved _ k _ _ _ c.is_base_up.ensures w.if-is_base_up.false
    ]

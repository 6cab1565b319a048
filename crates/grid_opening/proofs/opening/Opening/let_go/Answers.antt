use Rattle.std.proofs.Common.{refl}
use Rattle.grid_opening.specs.declared.settling.SlotWork.TheVariants as work
use Rattle.grid_opening.specs.Settling.{Always, Clears, IsHeldFor, IsSlot}
use Rattle.grid_opening.proofs.GoesLemmas.{tells_at, went_none, went_so}
use Rattle.grid_opening.proofs.ReadLemmas.{held_for, slot_not}
use Rattle.grid_opening.proofs.SlotLemmas.{clears_nothing}
use Rattle.grid_opening.proofs.opening.Opening.let_go.Goals as goal

pub returns-in-Held : goal.returns-in-Held
returns-in-Held g c =
    let a = c.args in
    went_so g.K.Keeper.kept g.L.Listener.heard g.K.Keeper.faults (IsHeldFor c.in-Held.owner c.in-Held.request a.slot) Always a.at.0 (Clears work.LetGo a.at.0 (IsSlot a.slot)) (Clears work.LetGo a.at.0 (IsSlot a.slot)) a.self.now c.give_up.new.self c.give_up.result c.give_up.ensures
    (λ H h t. held_for H a.slot c.slot_use.result c.in-Held.request c.in-Held.owner _ ((tells_at c.ledger.ensures c.slot_use.ensures).of H h.stands) c.in-Held.is)
    (λ H G h k same did. did)

pub returns-in-Free : goal.returns-in-Free
returns-in-Free g c = went_none g.K.Keeper.kept g.L.Listener.heard g.K.Keeper.faults Always c.args.at.0 (Clears work.LetGo c.args.at.0 (IsSlot c.args.slot)) c.args.self.now
    (λ H h t. clears_nothing work.LetGo c.args.at.0 (IsSlot c.args.slot) H (slot_not H c.args.slot c.slot_use.result work.LetGo ((tells_at c.ledger.ensures c.slot_use.ensures).of H h.stands) (rw c.in-Free.is refl)))

pub returns-in-Busy : goal.returns-in-Busy
returns-in-Busy g c = went_none g.K.Keeper.kept g.L.Listener.heard g.K.Keeper.faults Always c.args.at.0 (Clears work.LetGo c.args.at.0 (IsSlot c.args.slot)) c.args.self.now
    (λ H h t. clears_nothing work.LetGo c.args.at.0 (IsSlot c.args.slot) H (slot_not H c.args.slot c.slot_use.result work.LetGo ((tells_at c.ledger.ensures c.slot_use.ensures).of H h.stands) (rw c.in-Busy.is refl)))

pub returns-in-Closing : goal.returns-in-Closing
returns-in-Closing g c = went_none g.K.Keeper.kept g.L.Listener.heard g.K.Keeper.faults Always c.args.at.0 (Clears work.LetGo c.args.at.0 (IsSlot c.args.slot)) c.args.self.now
    (λ H h t. clears_nothing work.LetGo c.args.at.0 (IsSlot c.args.slot) H (slot_not H c.args.slot c.slot_use.result work.LetGo ((tells_at c.ledger.ensures c.slot_use.ensures).of H h.stands) (rw c.in-Closing.is refl)))

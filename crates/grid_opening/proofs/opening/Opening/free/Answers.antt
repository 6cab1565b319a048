use Rattle.std.proofs.Common.{refl}
use Rattle.grid_opening.specs.declared.settling.SlotWork.TheVariants as work
use Rattle.grid_opening.specs.Settling.{Always, Clears, IsClosingOf, IsSlot}
use Rattle.grid_opening.proofs.GoesLemmas.{tells_at, went_none, went_so}
use Rattle.grid_opening.proofs.ReadLemmas.{closing_of, slot_not}
use Rattle.grid_opening.proofs.SlotLemmas.{clears_nothing}
use Rattle.grid_opening.proofs.opening.Opening.free.Goals as goal

pub returns-in-Closing : goal.returns-in-Closing
returns-in-Closing g c =
    let a = c.args in
    went_so g.K.Keeper.kept g.L.Listener.heard g.K.Keeper.faults (IsClosingOf c.in-Closing.owner a.slot) Always a.at.0 (Clears work.Free a.at.0 (IsSlot a.slot)) (Clears work.Free a.at.0 (IsSlot a.slot)) a.self.now c.make_free.new.self c.make_free.result c.make_free.ensures
    (λ H h t. closing_of H a.slot c.slot_use.result c.in-Closing.owner ((tells_at c.ledger.ensures c.slot_use.ensures).of H h.stands) c.in-Closing.is)
    (λ H G h k same did. did)

pub returns-in-Free : goal.returns-in-Free
returns-in-Free g c = went_none g.K.Keeper.kept g.L.Listener.heard g.K.Keeper.faults Always c.args.at.0 (Clears work.Free c.args.at.0 (IsSlot c.args.slot)) c.args.self.now
    (λ H h t. clears_nothing work.Free c.args.at.0 (IsSlot c.args.slot) H (slot_not H c.args.slot c.slot_use.result work.Free ((tells_at c.ledger.ensures c.slot_use.ensures).of H h.stands) (rw c.in-Free.is refl)))

pub returns-in-Busy : goal.returns-in-Busy
returns-in-Busy g c = went_none g.K.Keeper.kept g.L.Listener.heard g.K.Keeper.faults Always c.args.at.0 (Clears work.Free c.args.at.0 (IsSlot c.args.slot)) c.args.self.now
    (λ H h t. clears_nothing work.Free c.args.at.0 (IsSlot c.args.slot) H (slot_not H c.args.slot c.slot_use.result work.Free ((tells_at c.ledger.ensures c.slot_use.ensures).of H h.stands) (rw c.in-Busy.is refl)))

pub returns-in-Held : goal.returns-in-Held
returns-in-Held g c = went_none g.K.Keeper.kept g.L.Listener.heard g.K.Keeper.faults Always c.args.at.0 (Clears work.Free c.args.at.0 (IsSlot c.args.slot)) c.args.self.now
    (λ H h t. clears_nothing work.Free c.args.at.0 (IsSlot c.args.slot) H (slot_not H c.args.slot c.slot_use.result work.Free ((tells_at c.ledger.ensures c.slot_use.ensures).of H h.stands) (rw c.in-Held.is refl)))

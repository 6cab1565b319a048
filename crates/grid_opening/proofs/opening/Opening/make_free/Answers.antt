use Rattle.std.proofs.Common.{arith}
use Rattle.grid_types.specs.declared.entry.Change.TheVariants as change
use Rattle.grid_types.specs.Slots.{slot_at}
use Rattle.grid_opening.specs.declared.settling.SlotWork.TheVariants as work
use Rattle.grid_opening.specs.Settling.{Clears, IsClosingOf, IsSlot}
use Rattle.grid_opening.proofs.GoesLemmas.{went_by_entry}
use Rattle.grid_opening.proofs.ReadLemmas.{freed_fits, owner_few}
use Rattle.grid_opening.proofs.StepLemmas.{free_step}
use Rattle.grid_opening.proofs.opening.Opening.make_free.Goals as goal

pub returns : goal.returns
returns g c =
    let a = c.args in
    went_by_entry g.K.Keeper.kept g.L.Listener.heard g.K.Keeper.faults (IsClosingOf a.owner (slot_at a.node a.index)) a.at.0 (Clears work.Free a.at.0 (IsSlot (slot_at a.node a.index))) a.self.now c.enter.new.self a.owner
    (change.Freed (slot_at a.node a.index)) c.enter.result c.enter.ensures
    (λ early. freed_fits a.owner (slot_at a.node a.index) (omega arith) (omega arith, omega arith))
    (λ H h has. owner_few a.self.now.most_caller H (slot_at a.node a.index) a.owner h.callers has.owner)
    (λ H h has. free_step c.history_laws.ensures a.self.now.ledger.config H a.owner (slot_at a.node a.index) a.at.0 has.holder has.owner)

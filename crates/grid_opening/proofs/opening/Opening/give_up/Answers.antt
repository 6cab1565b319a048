use Rattle.std.proofs.Common.{arith}
use Rattle.grid_types.specs.declared.entry.Change.TheVariants as change
use Rattle.grid_types.specs.declared.entry.FailWhy.TheVariants as why
use Rattle.std.specs.Prelude.{None}
use Rattle.grid_types.specs.Slots.{slot_at}
use Rattle.grid_opening.specs.declared.settling.SlotWork.TheVariants as work
use Rattle.grid_opening.specs.Settling.{Clears, IsHeldFor, IsSlot}
use Rattle.grid_opening.proofs.GoesLemmas.{tells_at, went_by_entry}
use Rattle.grid_opening.proofs.ReadLemmas.{failed_fits, owner_few}
use Rattle.grid_opening.proofs.StepLemmas.{let_go_step}
use Rattle.grid_opening.proofs.opening.Opening.give_up.Goals as goal

pub returns : goal.returns
returns g c =
    let a = c.args in
    went_by_entry g.K.Keeper.kept g.L.Listener.heard g.K.Keeper.faults (IsHeldFor a.owner a.request (slot_at a.node a.index)) a.at.0 (Clears work.LetGo a.at.0 (IsSlot (slot_at a.node a.index))) a.self.now c.enter.new.self a.owner
    (change.Failed a.request (slot_at a.node a.index) why.Unreachable None c.is_last-last.result a.at) c.enter.result c.enter.ensures
    (λ early. failed_fits a.owner a.request (slot_at a.node a.index) c.is_last-last.result a.at (omega arith) (omega arith) (omega arith, omega arith) early)
    (λ H h has. owner_few a.self.now.most_caller H (slot_at a.node a.index) a.owner h.callers has.owner)
    (λ H h has. let_go_step c.history_laws.ensures a.self.now.ledger.config H a.owner a.request (slot_at a.node a.index) c.is_last-last.result a.at has.holder has.owner
    ((tells_at c.ledger.ensures c.is_last-last.ensures).of H h.stands (slot_at a.node a.index) has.holder))

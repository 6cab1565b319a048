use Rattle.std.proofs.lemmas.Result.{err_from_is_err_and}
use Rattle.grid_opening.specs.declared.settling.SlotWork.TheVariants as work
use Rattle.grid_opening.specs.Settling.{Always, Clears, EachRequest, EachSlot, NoHeld, Settles, TakesGiven}
use Rattle.grid_opening.proofs.GoesLemmas.{went_both, went_off}
use Rattle.grid_opening.proofs.SlotLemmas.{settles}
use Rattle.grid_opening.proofs.opening.Opening.settle_starts.Goals as goal

pub returns-in_err-at_each_slot : goal.returns-in_err-at_each_slot
returns-in_err-at_each_slot g c =
    let p = err_from_is_err_and c.from_residual.result c.from_residual.ensures.1 in rw (p.1, p.2) (went_off g.K.Keeper.kept g.L.Listener.heard g.K.Keeper.faults Always Always c.args.at.0 (Clears work.LetGo c.args.at.0 EachSlot) (Settles c.args.at.0) c.args.self.now c.at_each_slot.new.self c.in_err-at_each_slot.field-0.0 c.in_err-at_each_slot.ensures)

pub returns : goal.returns
returns g c =
    let a = c.args in
    went_both g.K.Keeper.kept g.L.Listener.heard g.K.Keeper.faults a.at.0 (Clears work.LetGo a.at.0 EachSlot) (TakesGiven a.at.0 NoHeld EachRequest) (Settles a.at.0) a.self.now c.at_each_slot.new.self c.at_each_request.new.self _ c.at_each_request.result c.in_ok-at_each_slot.ensures c.at_each_request.ensures (settles a.at.0)

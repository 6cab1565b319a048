use Rattle.std.proofs.lemmas.Result.{err_from_is_err_and}
use Rattle.grid_opening.specs.declared.settling.SlotWork.TheVariants as work
use Rattle.grid_opening.specs.Settling.{Always, Closes, Refreshes, Settles}
use Rattle.grid_opening.proofs.GoesLemmas.{went_both, went_off}
use Rattle.grid_opening.proofs.SlotLemmas.{closes}
use Rattle.grid_opening.proofs.opening.Opening.settle_at.Goals as goal

pub returns-in_err-settle_starts : goal.returns-in_err-settle_starts
returns-in_err-settle_starts g c =
    let p = err_from_is_err_and c.from_residual.result c.from_residual.ensures.1 in rw (p.1, p.2) (went_off g.K.Keeper.kept g.L.Listener.heard g.K.Keeper.faults Always Always c.args.at.0 (Settles c.args.at.0) (Closes c.args.at.0) c.args.self.now c.settle_starts.new.self c.in_err-settle_starts.field-0.0 c.in_err-settle_starts.ensures)

pub returns : goal.returns
returns g c =
    let a = c.args in
    went_both g.K.Keeper.kept g.L.Listener.heard g.K.Keeper.faults a.at.0 (Settles a.at.0) (Refreshes a.at.0) (Closes a.at.0) a.self.now c.settle_starts.new.self c.refresh.new.self _ c.refresh.result c.in_ok-settle_starts.ensures c.refresh.ensures (closes a.at.0)

use Rattle.std.proofs.lemmas.Result.{err_from_is_err_and}
use Rattle.grid_opening.specs.declared.settling.SlotWork.TheVariants as work
use Rattle.grid_opening.specs.Settling.{Always, Stays}
use Rattle.grid_opening.proofs.GoesLemmas.{went_both, went_off}
use Rattle.grid_opening.proofs.SlotLemmas.{stays_both}
use Rattle.grid_opening.proofs.opening.Opening.at_node.Goals as goal

pub returns-in_err-drain_spent : goal.returns-in_err-drain_spent
returns-in_err-drain_spent g c =
    let p = err_from_is_err_and c.from_residual.result c.from_residual.ensures.1 in rw (p.1, p.2) (went_off g.K.Keeper.kept g.L.Listener.heard g.K.Keeper.faults Always Always c.args.at.0 Stays Stays c.args.self.now c.drain_spent.new.self c.in_err-drain_spent.field-0.0 c.in_err-drain_spent.ensures)

pub returns : goal.returns
returns g c =
    let a = c.args in
    went_both g.K.Keeper.kept g.L.Listener.heard g.K.Keeper.faults a.at.0 Stays Stays Stays a.self.now c.drain_spent.new.self c.beat.new.self _ c.beat.result c.in_ok-drain_spent.ensures c.beat.ensures stays_both

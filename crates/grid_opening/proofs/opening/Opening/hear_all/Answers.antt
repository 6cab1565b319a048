use Rattle.std.proofs.lemmas.Result.{err_from_is_err_and}
use Rattle.grid_opening.specs.declared.settling.SlotWork.TheVariants as work
use Rattle.grid_opening.specs.Settling.{Always, Stays}
use Rattle.grid_opening.proofs.GoesLemmas.{went_both, went_off}
use Rattle.grid_opening.proofs.SlotLemmas.{stays_both}
use Rattle.grid_opening.proofs.opening.Opening.hear_all.Goals as goal

pub returns-in_err-at_each_node : goal.returns-in_err-at_each_node
returns-in_err-at_each_node g c =
    let p = err_from_is_err_and c.from_residual.result c.from_residual.ensures.1 in rw (p.1, p.2) (went_off g.K.Keeper.kept g.L.Listener.heard g.K.Keeper.faults Always Always c.args.at.0 Stays Stays c.args.self.now c.at_each_node.new.self c.in_err-at_each_node.field-0.0 c.in_err-at_each_node.ensures)

pub returns : goal.returns
returns g c =
    let a = c.args in
    went_both g.K.Keeper.kept g.L.Listener.heard g.K.Keeper.faults a.at.0 Stays Stays Stays a.self.now c.at_each_node.new.self c.at_each_request.new.self _ c.at_each_request.result c.in_ok-at_each_node.ensures c.at_each_request.ensures stays_both

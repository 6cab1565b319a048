use Rattle.std.proofs.lemmas.Result.{err_from_is_err_and}
use Rattle.std.specs.Prelude.{Ok}
use Rattle.grid_opening.specs.Settling.{Always, Stays}
use Rattle.grid_opening.proofs.GoesLemmas.{done, went_both, went_err, went_none}
use Rattle.grid_opening.proofs.SlotLemmas.{stays_both, stays_nothing}
use Rattle.grid_opening.proofs.opening.Opening.at_each_node.Goals as goal

pub loop-node-init : goal.loop-node-init
loop-node-init g c = went_none g.K.Keeper.kept g.L.Listener.heard g.K.Keeper.faults Always c.args.at.0 Stays c.args.self.now (λ H h t. stays_nothing H)

pub loop-node-preserved : goal.loop-node-preserved
loop-node-preserved g c = went_both g.K.Keeper.kept g.L.Listener.heard g.K.Keeper.faults c.args.at.0 Stays Stays Stays c.args.self.now c.loop-node.self c.at_node.new.self done (Ok done) c.loop-node.invariant c.in_ok-at_node.ensures stays_both

pub returns-in_err-at_node : goal.returns-in_err-at_node
returns-in_err-at_node g c =
    let p = err_from_is_err_and c.from_residual.result c.from_residual.ensures.1 in rw (p.1, p.2) (went_err g.K.Keeper.kept g.L.Listener.heard g.K.Keeper.faults Always Always c.args.at.0 Stays Stays Stays c.args.self.now c.loop-node.self c.at_node.new.self done c.in_err-at_node.field-0.0 c.loop-node.invariant c.in_err-at_node.ensures)

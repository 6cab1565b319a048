use Rattle.std.proofs.Common.{arith}
use Rattle.grid_types.specs.declared.entry.Change.TheVariants as change
use Rattle.grid_opening.specs.Settling.{Always, Stays}
use Rattle.grid_opening.proofs.GoesLemmas.{went_by_entry}
use Rattle.grid_opening.proofs.ReadLemmas.{touched_fits}
use Rattle.grid_opening.proofs.StepLemmas.{touch_step}
use Rattle.grid_opening.proofs.opening.Opening.touch.Goals as goal

pub returns : goal.returns
returns g c =
    let a = c.args in
    went_by_entry g.K.Keeper.kept g.L.Listener.heard g.K.Keeper.faults Always a.at.0 Stays a.self.now c.enter.new.self 0
    (change.Touched a.binding a.at) c.enter.result c.enter.ensures
    (λ early. touched_fits 0 a.binding a.at (omega arith) (omega arith) early)
    (λ H h t. omega arith)
    (λ H h t. touch_step a.self.now.ledger.config H 0 a.binding a.at)

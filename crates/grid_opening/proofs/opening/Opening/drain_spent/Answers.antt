use Rattle.std.proofs.Common.{arith}
use Rattle.grid_types.specs.declared.entry.Change.TheVariants as change
use Rattle.grid_opening.specs.Settling.{Always, Stays}
use Rattle.grid_opening.proofs.GoesLemmas.{went_by_entry, went_none}
use Rattle.grid_opening.proofs.ReadLemmas.{draining_fits}
use Rattle.grid_opening.proofs.SlotLemmas.{stays_nothing}
use Rattle.grid_opening.proofs.StepLemmas.{drain_step}
use Rattle.grid_opening.proofs.opening.Opening.drain_spent.Goals as goal

pub returns-then-not-is_spent : goal.returns-then-not-is_spent
returns-then-not-is_spent g c = went_none g.K.Keeper.kept g.L.Listener.heard g.K.Keeper.faults Always c.args.at.0 Stays c.args.self.now (λ H h t. stays_nothing H)

pub returns : goal.returns
returns g c =
    let a = c.args in
    went_by_entry g.K.Keeper.kept g.L.Listener.heard g.K.Keeper.faults Always a.at.0 Stays a.self.now c.enter.new.self 0
    (change.Draining a.node a.at) c.enter.result c.enter.ensures
    (λ early. draining_fits 0 a.node a.at (omega arith) (omega arith) early)
    (λ H h t. omega arith)
    (λ H h t. drain_step a.self.now.ledger.config H 0 a.node a.at)

use Rattle.std.proofs.Common.{arith}
use Rattle.grid_types.specs.declared.entry.Change.TheVariants as change
use Rattle.grid_opening.specs.Settling.{Always, ClearsOne}
use Rattle.grid_opening.proofs.GoesLemmas.{went_by_entry}
use Rattle.grid_opening.proofs.ReadLemmas.{cleared_fits}
use Rattle.grid_opening.proofs.StepLemmas.{clear_step}
use Rattle.grid_opening.proofs.opening.Opening.clear.Goals as goal

pub returns : goal.returns
returns g c =
    let a = c.args in
    went_by_entry g.K.Keeper.kept g.L.Listener.heard g.K.Keeper.faults Always a.at.0 (ClearsOne a.at.0 a.request) a.self.now c.enter.new.self 0
    (change.Cleared a.request a.at) c.enter.result c.enter.ensures
    (λ early. cleared_fits 0 a.request a.at (omega arith) (omega arith) early)
    (λ H h t. omega arith)
    (λ H h t. clear_step c.history_laws.ensures a.self.now.ledger.config H 0 a.request a.at h.stands.is_legal)

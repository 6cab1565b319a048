use Rattle.std.proofs.Common.{arith}
use Rattle.grid_types.specs.declared.entry.Change.TheVariants as change
use Rattle.grid_opening.specs.Settling.{IsRequest, IsUntakenOf, TakesGiven}
use Rattle.grid_opening.proofs.GoesLemmas.{went_by_entry}
use Rattle.grid_opening.proofs.ReadLemmas.{asker_few, taken_fits}
use Rattle.grid_opening.proofs.StepLemmas.{take_step}
use Rattle.grid_opening.proofs.opening.Opening.take_it.Goals as goal

pub returns : goal.returns
returns g c =
    let a = c.args in
    went_by_entry g.K.Keeper.kept g.L.Listener.heard g.K.Keeper.faults (IsUntakenOf a.caller a.request) a.at.0 (TakesGiven a.at.0 (IsUntakenOf a.caller a.request) (IsRequest a.request)) a.self.now c.enter.new.self a.caller
    (change.Taken a.request a.at) c.enter.result c.enter.ensures
    (λ early. taken_fits a.caller a.request a.at (omega arith) (omega arith) early)
    (λ H h has. asker_few a.self.now.most_caller H a.request a.caller h.callers has.asker)
    (λ H h has. take_step c.history_laws.ensures a.self.now.ledger.config H a.caller a.request a.at)

use Rattle.std.proofs.Common.{arith}
use Rattle.grid_types.specs.declared.entry.Change.TheVariants as change
use Rattle.grid_types.specs.declared.entry.EndCause.TheVariants as cause
use Rattle.grid_opening.specs.Settling.{Ends, IsUntakenOf}
use Rattle.grid_opening.proofs.GoesLemmas.{went_by_entry, went_none}
use Rattle.grid_opening.proofs.ReadLemmas.{asker_few, ended_fits}
use Rattle.grid_opening.proofs.StepLemmas.{end_step, ends_none}
use Rattle.grid_opening.proofs.opening.Opening.end_untold.Goals as goal

pub returns-then-not-has_session : goal.returns-then-not-has_session
returns-then-not-has_session g c = went_none g.K.Keeper.kept g.L.Listener.heard g.K.Keeper.faults (IsUntakenOf c.args.caller c.args.request) c.args.at.0 (Ends c.args.at.0) c.args.self.now (λ H h t. ends_none c.args.at.0 H)

pub returns : goal.returns
returns g c =
    let a = c.args in
    went_by_entry g.K.Keeper.kept g.L.Listener.heard g.K.Keeper.faults (IsUntakenOf a.caller a.request) a.at.0 (Ends a.at.0) a.self.now c.enter.new.self a.caller
    (change.Ended a.request cause.Quit a.at) c.enter.result c.enter.ensures
    (λ early. ended_fits a.caller a.request a.at (omega arith) (omega arith) early)
    (λ H h has. asker_few a.self.now.most_caller H a.request a.caller h.callers has.asker)
    (λ H h has. end_step c.history_laws.ensures a.self.now.ledger.config H a.caller a.request a.at)

use Rattle.std.proofs.lemmas.Result.{err_from_is_err_and}
use Rattle.grid_opening.specs.Settling.{Ends, IsRequest, IsUntakenOf, TakesGiven}
use Rattle.grid_opening.proofs.GoesLemmas.{went_off, went_then}
use Rattle.grid_opening.proofs.SlotLemmas.{ends_takes, still_untaken}
use Rattle.grid_opening.proofs.opening.Opening.take.Goals as goal

pub returns-in_err-end_untold : goal.returns-in_err-end_untold
returns-in_err-end_untold g c =
    let p = err_from_is_err_and c.from_residual.result c.from_residual.ensures.1 in rw (p.1, p.2) (went_off g.K.Keeper.kept g.L.Listener.heard g.K.Keeper.faults (IsUntakenOf c.args.caller c.args.request) (IsUntakenOf c.args.caller c.args.request) c.args.at.0 (Ends c.args.at.0) (TakesGiven c.args.at.0 (IsUntakenOf c.args.caller c.args.request) (IsRequest c.args.request)) c.args.self.now c.end_untold.new.self c.in_err-end_untold.field-0.0 c.in_err-end_untold.ensures)

pub returns : goal.returns
returns g c =
    let a = c.args in
    went_then g.K.Keeper.kept g.L.Listener.heard g.K.Keeper.faults (IsUntakenOf a.caller a.request) (IsUntakenOf a.caller a.request) a.at.0 (Ends a.at.0)
    (TakesGiven a.at.0 (IsUntakenOf a.caller a.request) (IsRequest a.request)) (TakesGiven a.at.0 (IsUntakenOf a.caller a.request) (IsRequest a.request))
    a.self.now c.end_untold.new.self c.take_it.new.self _ c.take_it.result c.in_ok-end_untold.ensures c.take_it.ensures
    (still_untaken a.caller a.request a.at.0) (ends_takes a.caller a.request a.at.0)

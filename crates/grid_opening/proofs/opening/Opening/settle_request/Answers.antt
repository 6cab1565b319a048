use Rattle.std.proofs.lemmas.Result.{err_from_is_err_and}
use Rattle.grid_opening.specs.Settling.{Always, ClearsOne, IsRequest, IsSettledOrGone, NoHeld, TakesGiven}
use Rattle.grid_opening.proofs.GoesLemmas.{went_both, went_off}
use Rattle.grid_opening.proofs.SlotLemmas.{cleared_takes}
use Rattle.grid_opening.proofs.opening.Opening.settle_request.Goals as goal

pub returns-in_err-clear : goal.returns-in_err-clear
returns-in_err-clear g c =
    let p = err_from_is_err_and c.from_residual.result c.from_residual.ensures.1 in rw (p.1, p.2) (went_off g.K.Keeper.kept g.L.Listener.heard g.K.Keeper.faults Always Always c.args.at.0 (ClearsOne c.args.at.0 c.args.request) (TakesGiven c.args.at.0 NoHeld (IsRequest c.args.request)) c.args.self.now c.clear.new.self c.in_err-clear.field-0.0 c.in_err-clear.ensures)

pub returns : goal.returns
returns g c =
    let a = c.args in
    went_both g.K.Keeper.kept g.L.Listener.heard g.K.Keeper.faults a.at.0 (ClearsOne a.at.0 a.request) (TakesGiven a.at.0 (IsSettledOrGone a.request) (IsRequest a.request)) (TakesGiven a.at.0 NoHeld (IsRequest a.request))
    a.self.now c.clear.new.self c.take_untaken.new.self _ c.take_untaken.result c.in_ok-clear.ensures c.take_untaken.ensures (cleared_takes a.request a.at.0)

use Rattle.hub_tellers.specs.Tells.{Nothing}
use Rattle.std.proofs.Common.{sym}
use Rattle.hub_tellers.proofs.CallLemmas.{tells_call}
use Rattle.hub_tellers.proofs.calls.requests.withdraw_told.Goals as goal

pub returns-clause-told : goal.returns-clause-told
returns-clause-told c = tells_call _ _ c.args.caller _ _ _ _ c.withdraw-answer.ensures c.raised-now.ensures Nothing _ _ _ (λ H s may. tt) (c.told_withdraw-told.ensures _ (sym c.request-request.ensures))

use Rattle.hub_tellers.proofs.CallLemmas.{tells_call}
use Rattle.hub_tellers.proofs.calls.sessions.expire_told.Goals as goal

pub returns-clause-told : goal.returns-clause-told
returns-clause-told c = tells_call _ _ c.args.caller _ _ _ _ c.expire-answer.ensures c.raised-now.ensures _ _ _ _ (λ H s may. c.idle_binding-idle.ensures.of H s) c.told_expire-told.ensures

use Rattle.hub_tellers.specs.Tells.{Nothing}
use Rattle.hub_tellers.proofs.CallLemmas.{tells_call}
use Rattle.hub_tellers.proofs.calls.sessions.end_told.Goals as goal

pub returns-clause-told : goal.returns-clause-told
returns-clause-told c = tells_call _ _ c.args.caller _ _ _ _ c.end-answer.ensures c.raised-now.ensures Nothing _ _ _ (λ H s may. tt) (c.told_end-told.ensures _)

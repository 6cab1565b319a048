use Rattle.std.proofs.Common.{sym}
use Rattle.hub_tellers.proofs.CallLemmas.{tells_call, known_here}
use Rattle.hub_tellers.proofs.calls.requests.poll_told.Goals as goal

pub returns-clause-told : goal.returns-clause-told
returns-clause-told g c = tells_call _ _ c.args.caller _ _ _ _ c.poll-answer.ensures.serves c.raised-now.ensures _ _ _ _ (λ H s may. c.is_settled-settled.ensures.of H s (known_here c.args.caller c.args.ticket H may (sym c.request-request.ensures))) (c.told_poll-told.ensures _ (sym c.request-request.ensures))

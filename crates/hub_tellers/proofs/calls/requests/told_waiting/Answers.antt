use Rattle.hub_tellers.specs.Tells.{Nothing}
use Rattle.hub_tellers.proofs.RequestLemmas.{enqueue_quiet}
use Rattle.hub_tellers.proofs.CallLemmas.{tells_call}
use Rattle.hub_tellers.proofs.RowLemmas.{queued_told}
use Rattle.hub_tellers.proofs.calls.requests.told_waiting.Goals as goal

pub returns-in-Some : goal.returns-in-Some
returns-in-Some c = λ before choices at serves raised. queued_told c.calls_make.ensures _ _ _ _ _ _ _ _ raised c.history_laws.ensures choices _ _ _ _ c.request.ensures c.in-Queued.is serves c.in-Some.ensures c.told_enqueue.ensures

pub returns-in-None : goal.returns-in-None
returns-in-None c = λ before choices at serves raised. record { of = λ H s may. c.untold.ensures _ }

pub returns-in_default : goal.returns-in_default
returns-in_default c = λ before choices at serves raised. tells_call _ _ _ _ _ _ _ serves raised Nothing _ _ _ (λ H s may. tt) (enqueue_quiet c.calls_make.ensures _ _ _ _ _ _ c.in_default.not-Queued)

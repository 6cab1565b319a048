use Rattle.hub_tellers.proofs.RequestLemmas.{enqueue_told, enqueue_quiet}
use Rattle.hub_tellers.proofs.requests.told_enqueue.Goals as goal

pub returns-in-Queued : goal.returns-in-Queued
returns-in-Queued c = enqueue_told c.calls_make.ensures _ _ _ _ _ _ _ _ _ _ c.in-Queued.is c.request.ensures c.deadline.ensures c.queued.ensures

pub returns-in_default : goal.returns-in_default
returns-in_default c = enqueue_quiet c.calls_make.ensures _ _ _ _ _ _ c.in_default.not-Queued

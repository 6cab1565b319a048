use Rattle.hub_tellers.proofs.calls.requests.enqueue_told.Goals as goal

pub returns-clause-told : goal.returns-clause-told
returns-clause-told g c = c.told_waiting-told.ensures _ _ _ c.enqueue-answer.ensures.serves c.raised-now.ensures

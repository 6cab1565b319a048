use Rattle.hub_tellers.proofs.calls.nodes.register_told.Goals as goal

pub returns-clause-told : goal.returns-clause-told
returns-clause-told c = c.told_listed-told.ensures _ _ _ c.register-answer.ensures.serves c.raised-now.ensures

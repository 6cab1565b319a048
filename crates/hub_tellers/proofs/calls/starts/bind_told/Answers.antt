use Rattle.hub_tellers.proofs.BindLemmas.{stood_so}
use Rattle.hub_tellers.proofs.calls.starts.bind_told.Goals as goal

pub returns-clause-told : goal.returns-clause-told
returns-clause-told g c = c.told_start-told.ensures _ _ _ _ c.start_of-start.ensures c.bind-answer.ensures.serves c.raised-now.ensures
    (stood_so c.history_laws.ensures _ _ _ _ _ _ _ _ _ c.start_of-start.ensures c.bind-answer.ensures.serves c.is_base_up-was_up.ensures c.is_base_up-is_up.ensures c.is_settled-is_settled.ensures)

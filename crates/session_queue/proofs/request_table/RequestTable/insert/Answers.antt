use Rattle.session_queue.proofs.StepLemmas.{on-ok, on-err}
use Rattle.session_queue.proofs.LeadRowLemmas.{keeps-leads, others-set, others-on, sets-between, same-between}
use Rattle.session_queue.proofs.request_table.RequestTable.insert.Goals as goal

pub returns-clause-ok : goal.returns-clause-ok
returns-clause-ok c = on-ok c.insert_row-inserted.result (λ p. sets-between _ _ _ _ _ _ c.leave.ensures.rows p c.join.ensures.rows) c.insert_row-inserted.ensures.ok

pub returns-clause-err : goal.returns-clause-err
returns-clause-err c = on-err c.insert_row-inserted.result (λ p. same-between _ _ _ _ c.leave.ensures.rows p c.join.ensures.rows) c.insert_row-inserted.ensures.err

pub returns-clause-leads : goal.returns-clause-leads
returns-clause-leads c =
    let proved = c.queue_laws.ensures in
    keeps-leads proved _ _ _ _ c.args.request c.leave.ensures.leads
    (others-on c.insert_row-inserted.result _ _ c.args.request c.insert_row-inserted.ensures.ok c.insert_row-inserted.ensures.err (λ p. others-set _ _ c.args.request _ p)) c.insert_row-inserted.ensures.leads c.insert_row-inserted.ensures.led c.join.ensures.leads

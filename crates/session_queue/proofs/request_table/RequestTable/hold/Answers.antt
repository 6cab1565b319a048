use Rattle.session_queue.proofs.StepLemmas.{on-ok, on-err}
use Rattle.session_queue.proofs.LeadRowLemmas.{keeps-leads, others-map, others-on, maps-between, same-between}
use Rattle.session_queue.proofs.request_table.RequestTable.hold.Goals as goal

pub returns-clause-ok : goal.returns-clause-ok
returns-clause-ok c = on-ok c.hold_row-held.result (λ p. maps-between _ _ _ _ _ _ c.leave.ensures.rows p c.join.ensures.rows) c.hold_row-held.ensures.ok

pub returns-clause-err : goal.returns-clause-err
returns-clause-err c = on-err c.hold_row-held.result (λ p. same-between _ _ _ _ c.leave.ensures.rows p c.join.ensures.rows) c.hold_row-held.ensures.err

pub returns-clause-leads : goal.returns-clause-leads
returns-clause-leads c =
    let proved = c.queue_laws.ensures in
    keeps-leads proved _ _ _ _ c.args.request c.leave.ensures.leads
    (others-on c.hold_row-held.result _ _ c.args.request c.hold_row-held.ensures.ok c.hold_row-held.ensures.err (λ p. others-map _ _ c.args.request _ p)) c.hold_row-held.ensures.leads c.hold_row-held.ensures.led c.join.ensures.leads

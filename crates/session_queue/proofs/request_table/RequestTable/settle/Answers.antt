use Rattle.session_queue.proofs.LeadRowLemmas.{keeps-leads, others-settle, settles-between}
use Rattle.session_queue.proofs.request_table.RequestTable.settle.Goals as goal

pub returns-clause-rows : goal.returns-clause-rows
returns-clause-rows c = settles-between _ _ _ _ _ _ c.leave.ensures.rows c.settle_row.ensures.rows c.join.ensures.rows

pub returns-clause-leads : goal.returns-clause-leads
returns-clause-leads c =
    let proved = c.queue_laws.ensures in
    keeps-leads proved _ _ _ _ c.args.request c.leave.ensures.leads (others-settle _ _ c.args.request _ c.settle_row.ensures.rows) c.settle_row.ensures.leads c.settle_row.ensures.led c.join.ensures.leads

use Rattle.session_queue.proofs.LeadRowLemmas.{keeps-leads, others-map, maps-between}
use Rattle.session_queue.proofs.request_table.RequestTable.wait_again.Goals as goal

pub returns-clause-rows : goal.returns-clause-rows
returns-clause-rows c = maps-between _ _ _ _ _ _ c.leave.ensures.rows c.free_row.ensures.rows c.join.ensures.rows

pub returns-clause-leads : goal.returns-clause-leads
returns-clause-leads c =
    let proved = c.queue_laws.ensures in
    keeps-leads proved _ _ _ _ c.args.request c.leave.ensures.leads (others-map _ _ c.args.request _ c.free_row.ensures.rows) c.free_row.ensures.leads c.free_row.ensures.led c.join.ensures.leads

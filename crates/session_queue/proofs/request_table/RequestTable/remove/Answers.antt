use Rattle.std.proofs.Common.{◌∙◌}
use Rattle.session_queue.proofs.LeadRowLemmas.{keeps-leads, others-set, sets-between, same-both}
use Rattle.session_queue.proofs.request_table.RequestTable.remove.Goals as goal

pub returns-clause-rows : goal.returns-clause-rows
returns-clause-rows c = sets-between _ _ _ _ _ _ c.leave.ensures.rows c.remove_row-removed.ensures.rows (same-both _ _ _ c.join.ensures.rows c.renew.ensures.rows)

pub returns-clause-value : goal.returns-clause-value
returns-clause-value c = c.remove_row-removed.ensures.value ∙ c.leave.ensures.rows.rows c.args.request

pub returns-clause-leads : goal.returns-clause-leads
returns-clause-leads c =
    let proved = c.queue_laws.ensures in
    record {
      still = λ h. c.renew.ensures.leads.still ((keeps-leads proved _ _ _ _ c.args.request c.leave.ensures.leads (others-set _ _ c.args.request _ c.remove_row-removed.ensures.rows) c.remove_row-removed.ensures.leads c.remove_row-removed.ensures.led c.join.ensures.leads).still h);
    }

use Rattle.std.proofs.Common.{◌∙◌, sym}
use Rattle.session_queue.proofs.LeadRowLemmas.{leaves-none}
use Rattle.session_queue.proofs.request_table.RequestTable.leave.Goals as goal

pub returns-then-is_lead-clause-leads : goal.returns-then-is_lead-clause-leads
returns-then-is_lead-clause-leads c = c.pass_on.ensures.leads (sym c.is_lead.ensures ∙ c.if-is_lead.true)

pub returns-else-is_lead-clause-leads : goal.returns-else-is_lead-clause-leads
returns-else-is_lead-clause-leads c =
    let proved = c.queue_laws.ensures in
    leaves-none proved _ c.args.request (sym c.is_lead.ensures ∙ c.if-is_lead.false)

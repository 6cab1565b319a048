use Rattle.std.proofs.Common.{arith}
use Rattle.session_queue.proofs.LeadRowLemmas.{joins-covered, joins-over, joins-new}
use Rattle.session_queue.proofs.request_table.RequestTable.take_in.Goals as goal

pub returns-then-request-lead-clause-leads : goal.returns-then-request-lead-clause-leads
returns-then-request-lead-clause-leads c =
    let proved = c.queue_laws.ensures in
    λ here. joins-over proved _ _ _ c.args.request c.in-Some.lead here (c.in-Some.ensures here) c.if-request-lead.true
    c.drop_lead.ensures.rows c.drop_lead.ensures.leads c.add_lead.ensures.rows c.add_lead.ensures.leads

pub returns-else-request-lead-clause-leads : goal.returns-else-request-lead-clause-leads
returns-else-request-lead-clause-leads c =
    let proved = c.queue_laws.ensures in
    λ here. joins-covered proved _ c.args.request c.in-Some.lead (c.in-Some.ensures here) (let low = c.if-request-lead.false in omega arith)

pub returns-in-None-clause-leads : goal.returns-in-None-clause-leads
returns-in-None-clause-leads c =
    let proved = c.queue_laws.ensures in
    λ here. joins-new proved _ _ c.args.request here (c.in-None.ensures here) c.add_lead-in-None.ensures.rows c.add_lead-in-None.ensures.leads

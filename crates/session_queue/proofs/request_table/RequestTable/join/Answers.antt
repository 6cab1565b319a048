use Rattle.std.proofs.Common.{◌∙◌, sym}
use Rattle.session_queue.proofs.LeadRowLemmas.{joins-none}
use Rattle.session_queue.proofs.request_table.RequestTable.join.Goals as goal

pub returns-then-is_waiting-clause-leads : goal.returns-then-is_waiting-clause-leads
returns-then-is_waiting-clause-leads c = c.take_in.ensures.leads (sym c.is_waiting.ensures ∙ c.if-is_waiting.true)

pub returns-else-is_waiting-clause-leads : goal.returns-else-is_waiting-clause-leads
returns-else-is_waiting-clause-leads c =
    let proved = c.queue_laws.ensures in
    joins-none proved _ c.args.request (sym c.is_waiting.ensures ∙ c.if-is_waiting.false)

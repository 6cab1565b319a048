use Rattle.session_queue.proofs.LeadRowLemmas.{leaves-next, leaves-alone}
use Rattle.std.specs.Prelude.{Option}
use Rattle.std.proofs.Common.{ℕ, subst}
use Rattle.session_queue.specs.Table.{FindsLike}
use Rattle.session_queue.proofs.request_table.RequestTable.pass_on.Goals as goal

pub returns-in-Some-clause-leads : goal.returns-in-Some-clause-leads
returns-in-Some-clause-leads c =
    let proved = c.queue_laws.ensures in
    λ inside. leaves-next proved _ _ _ c.args.request c.in-Some.heir inside (subst (λ (o : Option ℕ). FindsLike c.args.self.now c.args.request o) c.in-Some.is c.next_like-next.ensures)
    c.drop_lead.ensures.rows c.drop_lead.ensures.leads c.add_lead.ensures.rows c.add_lead.ensures.leads

pub returns-in_default-clause-leads : goal.returns-in_default-clause-leads
returns-in_default-clause-leads c =
    let proved = c.queue_laws.ensures in
    λ inside. leaves-alone proved _ _ c.args.request (subst (λ (o : Option ℕ). FindsLike c.args.self.now c.args.request o) c.in_default.is c.next_like-next.ensures)
    c.drop_lead.ensures.rows c.drop_lead.ensures.leads

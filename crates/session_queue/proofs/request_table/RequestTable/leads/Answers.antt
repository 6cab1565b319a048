use Rattle.std.proofs.Common.{ℕ, List, subst, sym}
use Rattle.request_laws.specs.Leads.{LeadKinds}
use Rattle.session_queue.proofs.LeadRowLemmas.{lead-kinds}
use Rattle.session_queue.proofs.request_table.RequestTable.leads.Goals as goal

pub returns-then-self : goal.returns-then-self
returns-then-self c =
    let proved = c.queue_laws.ensures in
    record { of = λ d H st l. subst (λ (ls : List ℕ). LeadKinds H ls) (sym c.as_slice.ensures.value) (lead-kinds proved c.args.self.now H st c.if-self.true) }

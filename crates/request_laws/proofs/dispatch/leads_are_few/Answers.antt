use Rattle.request_laws.proofs.LeadLemmas.{leads-are-few}
use Rattle.request_laws.proofs.dispatch.leads_are_few.Goals as goal

pub returns : goal.returns
returns c =
    let proved = c.history_laws.ensures in
    leads-are-few proved

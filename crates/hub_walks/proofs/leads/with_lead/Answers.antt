use Rattle.std.proofs.Common.{refl}
use Rattle.grid_types.specs.History.{nodes}
use Rattle.hub_walks.specs.First.{groups_up}
use Rattle.hub_walks.proofs.LeadLemmas.{found-lead, found-late, cost-alike}
use Rattle.hub_walks.proofs.leads.with_lead.Goals as goal

pub returns-in-Some-clause-answer : goal.returns-in-Some-clause-answer
returns-in-Some-clause-answer g c =
    let proved = c.walk_laws.ensures in
    record {
      of = λ d H st l below leads w inside passed f.
          let found = c.in-Some.ensures.of d H st.requests_stand l (w.counted c.args.lead inside) in
          found-lead proved H c.args.at.0 leads passed _ _ c.args.lead c.in-Some.number w inside found (c.with_request.ensures.answer.of d H st l below (found.right c.in-Some.number refl).waits_there) f;
    }

pub returns-in-None-clause-answer : goal.returns-in-None-clause-answer
returns-in-None-clause-answer g c =
    let proved = c.walk_laws.ensures in
    record {
      of = λ d H st l below leads w inside passed f. found-late proved H c.args.at.0 leads passed _ c.args.lead w inside (c.in-None.ensures.of d H st.requests_stand l (w.counted c.args.lead inside)) f;
    }

pub returns-in-Some-clause-cost : goal.returns-in-Some-clause-cost
returns-in-Some-clause-cost g c =
    let proved = c.walk_laws.ensures in
    record {
      of = λ d H st l waits.
          let found = c.in-Some.ensures.of d H st.requests_stand l waits in
          cost-alike proved H c.args.lead c.in-Some.number (groups_up H (nodes H)) _ _ (found.right c.in-Some.number refl).same (c.with_request.ensures.cost.of d H st l);
    }

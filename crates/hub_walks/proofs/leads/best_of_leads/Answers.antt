use Rattle.std.proofs.Common.{ℕ, List, sym, subst}
use Rattle.std.proofs.lemmas.List.{take_more}
use Rattle.grid_types.specs.History.{nodes}
use Rattle.hub_walks.specs.First.{IsFound, groups_up}
use Rattle.hub_walks.proofs.LeadLemmas.{cost-leads, get-has}
use Rattle.hub_walks.proofs.leads.best_of_leads.Goals as goal

pub loop-lead-preserved : goal.loop-lead-preserved
loop-lead-preserved g c = (
  record {
    of = λ d H st l below w.
        let more = take_more c.args.leads.now c.loop-lead.lead-index 0 c.loop-lead-test.true in
        subst (λ (xs : List ℕ). IsFound H c.args.at.0 xs c.with_lead-best.result) (sym more)
        (c.with_lead-best.ensures.answer.of d H st l below c.args.leads.now w (get-has c.args.leads.now c.loop-lead.lead-index 0 c.loop-lead-test.true) _ (c.loop-lead.invariant.0.of d H st l below w));
  },
  record {
    of = λ d H st l w.
        let more = take_more c.args.leads.now c.loop-lead.lead-index 0 c.loop-lead-test.true in
        cost-leads H _ _ _ (groups_up H (nodes H)) _ _ _ more (c.loop-lead.invariant.1.of d H st l w)
        (c.with_lead-best.ensures.cost.of d H st l (w.counted _ (get-has c.args.leads.now c.loop-lead.lead-index 0 c.loop-lead-test.true)));
  },
)

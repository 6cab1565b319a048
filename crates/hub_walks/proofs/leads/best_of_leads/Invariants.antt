use Rattle.std.proofs.Common.{◌+◌, ◌*◌, ◌≤◌, take}
use Rattle.grid_types.specs.History.{nodes}
use Rattle.request_laws.specs.Kinds.{choices_in}
use Rattle.request_laws.specs.Leads.{LeadKinds}
use Rattle.hub_walks.specs.Stand.{AllTell}
use Rattle.hub_walks.specs.First.{IsFound, NoneBelow, groups_up}
use Rattle.hub_walks.proofs.leads.best_of_leads.Given as goal

-- the best of the leads so far, and what they cost
abbrev pub invariant-loop-lead : goal.invariant-loop-lead
invariant-loop-lead g l = (AllTell l.nodes l.slots l.requests (λ H. NoneBelow H l.first l.at.0 → LeadKinds H l.leads → IsFound H l.at.0 (take l.lead-index l.leads) l.best))
    × AllTell l.nodes l.slots l.requests (λ H. LeadKinds H l.leads → l.steps ≤ l.initial.steps + choices_in H (take l.lead-index l.leads) * groups_up H (nodes H))

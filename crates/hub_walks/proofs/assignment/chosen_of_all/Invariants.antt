use Rattle.std.proofs.Common.{ℕ, suc, ◌-◌, ◌^◌, ◌+◌, ◌*◌, ◌≤◌}
use Rattle.grid_types.specs.History.{nodes}
use Rattle.std.specs.Prelude.{Option, None, Some}
use Rattle.hub_walks.specs.Stand.{AllTell}
use Rattle.hub_walks.specs.First.{IsWalked, NoneBelow, IsNext, choices_passed, groups_up}
use Rattle.hub_walks.proofs.assignment.chosen_of_all.Given as goal

-- nothing fits the requests so far
abbrev pub invariant-loop-next : goal.invariant-loop-next
invariant-loop-next g l = (AllTell l.nodes l.slots l.requests (λ H. NoneBelow H l.first l.at.0 → IsWalked H l.at.0 l.next))
    × AllTell l.nodes l.slots l.requests (λ H. IsNext H l.next × (l.steps ≤ l.initial.steps + choices_passed H l.at.0 l.next * groups_up H (nodes H)))

-- how many numbers are left
abbrev left : Option ℕ → ℕ
left None = 0
left (Some r) = suc (2 ^ 64 - r)

abbrev pub decreases-loop-next : goal.decreases-loop-next
decreases-loop-next g l = left l.next

use Rattle.std.proofs.Common.{◌≡◌}
use Rattle.trial_core.specs.Plain.{KeepsPlain}
use Rattle.trial_core.proofs.costs.enqueue_all.Given as goal

-- all stays plain, and nothing was compared
abbrev pub invariant-loop : goal.invariant-loop
invariant-loop g l = KeepsPlain 0 l.choices l.initial.core l.core × (l.steps ≡ l.initial.steps)

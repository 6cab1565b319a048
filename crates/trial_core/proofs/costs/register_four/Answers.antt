use Rattle.trial_core.proofs.CostLemmas.{keeps-then}
use Rattle.trial_core.proofs.costs.register_four.Goals as goal

pub returns : goal.returns
returns c = λ choices.
    keeps-then 3 1 choices _ _ _ (keeps-then 2 1 choices _ _ _ (keeps-then 1 1 choices _ _ _ (c.in_ok-_a.ensures choices) (c.in_ok-_b.ensures choices)) (c.in_ok-_c.ensures choices)) (c.in_ok-_d.ensures choices)

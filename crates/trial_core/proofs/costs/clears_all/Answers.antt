use Rattle.trial_core.proofs.CostLemmas.{clear-none}
use Rattle.trial_core.proofs.costs.clears_all.Goals as goal

pub returns : goal.returns
returns g c = c.dispatches_nothing-is_so.ensures.none (clear-none _ _ _ _ _ c.clear-cleared.ensures c.requires)

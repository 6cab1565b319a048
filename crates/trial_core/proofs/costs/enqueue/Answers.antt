use Rattle.std.proofs.Common.{rules}
use Rattle.trial_core.proofs.CostLemmas.{enqueue-keeps}
use Rattle.trial_core.proofs.costs.enqueue.Goals as goal

pub returns-clause-plain : goal.returns-clause-plain
returns-clause-plain g c = enqueue-keeps _ _ _ _ _ c.args.choices c.enqueue.ensures.serves (search rules) (search rules)

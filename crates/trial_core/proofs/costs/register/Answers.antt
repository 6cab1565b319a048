use Rattle.trial_core.proofs.CostLemmas.{register-keeps}
use Rattle.trial_core.proofs.costs.register.Goals as goal

pub returns : goal.returns
returns c = λ choices. register-keeps _ _ _ _ _ _ choices c.register.ensures.serves c.requires.sized c.requires.one

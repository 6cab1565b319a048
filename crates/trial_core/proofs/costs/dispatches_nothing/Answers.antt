use Rattle.trial_core.proofs.CostLemmas.{dispatch-stands, plain-cost, none-cost}
use Rattle.trial_core.proofs.costs.dispatches_nothing.Goals as goal

pub returns-clause-some : goal.returns-clause-some
returns-clause-some g c = λ before. dispatch-stands _ _ _ _ _ c.dispatch-answer.ensures.serves before

pub returns-clause-few : goal.returns-clause-few
returns-clause-few g c = λ most choices plain. plain-cost c.kinds_tell.ensures.divide _ _ _ most choices c.dispatch-answer.ensures.cost plain

pub returns-clause-none : goal.returns-clause-none
returns-clause-none g c = λ none. none-cost _ _ _ c.dispatch-answer.ensures.cost none

use Rattle.hub_store.proofs.OpenLemmas.{closed_option}
use Rattle.hub_store.proofs.opening.go_on_as.Goals as goal

pub returns-in-Some-clause-reason : goal.returns-in-Some-clause-reason
returns-in-Some-clause-reason g c =
    closed_option c.args.told (g.S.Source.view c.args.store.now).given c.args.journal _ _ _ c.closed.result.keeping c.config-kept.result _ c.closed.result.fault c.requires.found c.requires.unfinished c.closed.ensures.0 c.config-kept.ensures c.in-Some.ensures.other

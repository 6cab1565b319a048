use Rattle.hub_store.proofs.OpenLemmas.{anew_ok, closed_as, few, if_err}
use Rattle.hub_store.proofs.opening.begin_anew.Goals as goal

pub returns-in-Ok-keep_anew-clause-opens : goal.returns-in-Ok-keep_anew-clause-opens
returns-in-Ok-keep_anew-clause-opens g c =
    anew_ok c.args.config (g.S.Source.view c.args.store.now).given c.begin_there.result c.requires.cut c.begin_there.ensures.config c.begin_there.ensures.begins c.begin_there.ensures.next

pub returns-in-Ok-keep_anew-clause-reason : goal.returns-in-Ok-keep_anew-clause-reason
returns-in-Ok-keep_anew-clause-reason g c =
    if_err _ _ c.begin_there.result (λ e why. closed_as c.args.config (g.S.Source.view c.args.store.now).given _ _ _ _ 0 e.keeping e.fault c.in-Ok-keep_anew.ensures.at (few (g.S.Source.view c.args.store.now).given) why) c.begin_there.ensures.reason

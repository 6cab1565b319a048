use Rattle.hub_store.proofs.OpenLemmas.{behind_ok, closed_as, if_err, many}
use Rattle.hub_store.proofs.opening.begin_behind.Goals as goal

pub returns-in-Ok-keep_aside-clause-opens : goal.returns-in-Ok-keep_aside-clause-opens
returns-in-Ok-keep_aside-clause-opens g c =
    behind_ok c.args.told c.args.next (g.S.Source.view c.args.store.now).given _ c.args.journal c.most_caller-most_caller.result c.begin_there.result c.requires.found c.requires.some c.requires.options c.requires.nodes c.requires.requests c.requires.over
    c.in-Ok-keep_aside.ensures.aside (c.most_caller-most_caller.ensures c.requires.found.history c.requires.found.stands_for.shows) c.begin_there.ensures.config c.begin_there.ensures.begins c.begin_there.ensures.next

pub returns-in-Ok-keep_aside-clause-reason : goal.returns-in-Ok-keep_aside-clause-reason
returns-in-Ok-keep_aside-clause-reason g c =
    if_err _ _ c.begin_there.result (λ e why. closed_as c.args.told (g.S.Source.view c.args.store.now).given _ _ _ _ c.most_caller-most_caller.result e.keeping e.fault c.in-Ok-keep_aside.ensures.at
    (many (g.S.Source.view c.args.store.now).given c.args.journal c.requires.found c.most_caller-most_caller.result (c.most_caller-most_caller.ensures c.requires.found.history c.requires.found.stands_for.shows)) why) c.begin_there.ensures.reason

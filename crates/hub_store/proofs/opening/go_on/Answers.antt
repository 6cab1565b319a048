use Rattle.hub_store.proofs.OpenLemmas.{closed_found_as, found_read, goes_on, is_read}
use Rattle.hub_store.proofs.opening.go_on.Goals as goal

pub settle_and_go_on-requires-clause-read : goal.settle_and_go_on-requires-clause-read
settle_and_go_on-requires-clause-read g c =
    let j = c.args.journal in let found = c.requires.found in
    is_read j.ledger j.listener c.in-Ok.outset.keeping c.most_caller-most_caller.result found.history
    (found_read (g.S.Source.view c.args.store.now).given j c.in-Ok.outset.keeping c.most_caller-most_caller.result found (c.most_caller-most_caller.ensures found.history found.stands_for.shows) c.in-Ok.ensures.kept)

pub settle_and_go_on-requires-clause-valid : goal.settle_and_go_on-requires-clause-valid
settle_and_go_on-requires-clause-valid g c = c.requires.found.left.journal.is_valid

pub returns-in-Ok-settle_and_go_on-clause-opens : goal.returns-in-Ok-settle_and_go_on-clause-opens
returns-in-Ok-settle_and_go_on-clause-opens g c =
    let found = c.requires.found in
    goes_on c.args.told (g.S.Source.view c.args.store.now).given c.args.journal c.in-Ok.outset.keeping c.most_caller-most_caller.result _ _ _ _ found c.requires.unfinished c.requires.options c.in-Ok-settle_and_go_on.ensures.config
    (c.most_caller-most_caller.ensures found.history found.stands_for.shows) c.in-Ok.ensures.kept c.in-Ok-settle_and_go_on.ensures.goes_on c.in-Ok-settle_and_go_on.ensures.next

pub returns-in-Err-clause-reason : goal.returns-in-Err-clause-reason
returns-in-Err-clause-reason g c =
    let found = c.requires.found in
    closed_found_as c.args.told (g.S.Source.view c.args.store.now).given c.args.journal _ _ _ c.in-Ok.outset.at.0 c.most_caller-most_caller.result c.in-Ok.outset.keeping c.in-Err.fault.keeper c.unsettled.result.keeping c.in-Err.fault.fault c.unsettled.result.fault
    found (c.most_caller-most_caller.ensures found.history found.stands_for.shows) c.in-Ok.ensures.kept c.in-Ok.ensures.at c.in-Err.ensures.reason c.unsettled.ensures.0 c.unsettled.ensures.1

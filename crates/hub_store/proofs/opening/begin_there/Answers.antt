use Rattle.std.proofs.Common.{sym, subst}
use Rattle.grid_types.specs.declared.config.HubConfig.{HubConfig}
use Rattle.grid_types.specs.Config.{IsValid}
use Rattle.hub_store.proofs.OpenLemmas.{begins_of, empty_read, is_read, not_begun_as}
use Rattle.hub_store.proofs.opening.begin_there.Goals as goal

pub settle_and_go_on-requires-clause-valid : goal.settle_and_go_on-requires-clause-valid
settle_and_go_on-requires-clause-valid g c = subst (λ (d : HubConfig). IsValid d) (sym c.new-ledger.ensures.config) c.requires.valid

pub settle_and_go_on-requires-clause-read : goal.settle_and_go_on-requires-clause-read
settle_and_go_on-requires-clause-read g c =
    is_read c.new-ledger.result c.new.result c.args.outset.keeping c.args.most_caller _
    (empty_read c.args.config c.new-ledger.result c.new.result c.args.outset.keeping c.args.most_caller c.new-ledger.ensures.config c.new-ledger.ensures.stands c.new.ensures c.requires.kept)

pub returns-in-Ok-clause-begins : goal.returns-in-Ok-clause-begins
returns-in-Ok-clause-begins g c =
    begins_of c.args.config c.new-ledger.result c.new.result c.args.outset.keeping c.args.most_caller _ _ _ c.new-ledger.ensures.config c.in-Ok.ensures.goes_on
    (empty_read c.args.config c.new-ledger.result c.new.result c.args.outset.keeping c.args.most_caller c.new-ledger.ensures.config c.new-ledger.ensures.stands c.new.ensures c.requires.kept)

pub returns-in-Err-clause-reason : goal.returns-in-Err-clause-reason
returns-in-Err-clause-reason g c =
    not_begun_as c.new-ledger.result c.new.result c.args.outset.keeping c.args.most_caller c.args.outset.at.0 c.in-Err.fault.keeper c.unsettled.result.keeping c.in-Err.fault.fault c.unsettled.result.fault
    (empty_read c.args.config c.new-ledger.result c.new.result c.args.outset.keeping c.args.most_caller c.new-ledger.ensures.config c.new-ledger.ensures.stands c.new.ensures c.requires.kept)
    c.in-Err.ensures.reason c.unsettled.ensures.0 c.unsettled.ensures.1

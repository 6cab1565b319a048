use Rattle.hub_tellers.proofs.RecordLemmas.{records_serve, records_tell}
use Rattle.hub_tellers.proofs.sweeping.sweep_told.Goals as goal

pub sweep_by-swept-requires : goal.sweep_by-swept-requires
sweep_by-swept-requires c = λ asks. absurd (cc)

pub returns-clause-serves : goal.returns-clause-serves
returns-clause-serves c = records_serve _ _ c.args.caller _ _ _ _ _ _ _ _ _ _ c.begun-telling.ensures.caller c.begun-telling.ensures.piece c.begun-telling.ensures.told c.sweep_by-swept.ensures

pub returns-clause-told : goal.returns-clause-told
returns-clause-told c = records_tell _ _ c.args.caller _ _ _ _ _ _ _ _ _ _ c.begun-telling.ensures.caller c.begun-telling.ensures.piece c.begun-telling.ensures.told c.sweep_by-swept.ensures

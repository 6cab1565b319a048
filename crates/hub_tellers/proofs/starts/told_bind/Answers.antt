use Rattle.hub_tellers.proofs.StartLemmas.{bound_told}
use Rattle.hub_tellers.proofs.starts.told_bind.Goals as goal

pub returns-in-Bound : goal.returns-in-Bound
returns-in-Bound c = λ reservation is_of. bound_told c.calls_make.ensures _ _ reservation _ is_of _ _ _ _ _ _ _ _ _ c.in-Bound.is c.drains_then-drains.ensures c.told_bound.ensures

pub returns-in_default : goal.returns-in_default
returns-in_default c = c.told_unkept.ensures _

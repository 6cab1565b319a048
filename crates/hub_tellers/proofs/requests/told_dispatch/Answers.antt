use Rattle.hub_tellers.proofs.RequestLemmas.{dispatch_told, dispatch_quiet}
use Rattle.hub_tellers.proofs.requests.told_dispatch.Goals as goal

pub returns-in-Assigned : goal.returns-in-Assigned
returns-in-Assigned c = dispatch_told c.calls_make.ensures _ _ _ _ _ _ _ c.in-Assigned.is c.told_reserved.ensures

pub returns-in_default : goal.returns-in_default
returns-in_default c = dispatch_quiet c.calls_make.ensures _ _ _ _ _ c.in_default.not-Assigned

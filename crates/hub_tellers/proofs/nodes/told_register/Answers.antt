use Rattle.hub_tellers.proofs.NodeLemmas.{register_told, register_quiet}
use Rattle.hub_tellers.proofs.nodes.told_register.Goals as goal

pub returns-in-Registered : goal.returns-in-Registered
returns-in-Registered c = register_told c.calls_make.ensures _ _ _ _ _ _ _ _ c.in-Registered.is c.registered.ensures

pub returns-in_default : goal.returns-in_default
returns-in_default c = register_quiet c.calls_make.ensures _ _ _ _ _ _ c.in_default.not-Registered

use Rattle.hub_tellers.proofs.SessionLemmas.{expire_told, expire_quiet}
use Rattle.hub_tellers.proofs.sessions.told_expire.Goals as goal

pub returns-in-Expired : goal.returns-in-Expired
returns-in-Expired c = expire_told c.calls_make.ensures _ _ _ _ _ _ _ _ c.in-Expired.is c.told_idle.ensures

pub returns-in-Nothing : goal.returns-in-Nothing
returns-in-Nothing c = expire_quiet c.calls_make.ensures _ _ _ _ _ _ c.in-Nothing.is

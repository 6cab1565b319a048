use Rattle.hub_tellers.proofs.SessionLemmas.{end_told, end_quiet}
use Rattle.hub_tellers.proofs.sessions.told_end.Goals as goal

pub returns-in-Ended : goal.returns-in-Ended
returns-in-Ended c = λ session. end_told c.calls_make.ensures _ _ session _ _ _ _ _ _ c.in-Ended.is c.ended.ensures

pub returns-in-NoSession : goal.returns-in-NoSession
returns-in-NoSession c = λ session. end_quiet c.calls_make.ensures _ _ session _ _ _ _ c.in-NoSession.is

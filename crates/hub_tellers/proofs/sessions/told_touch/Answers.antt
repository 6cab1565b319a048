use Rattle.hub_tellers.proofs.SessionLemmas.{touch_told, touch_quiet}
use Rattle.hub_tellers.proofs.sessions.told_touch.Goals as goal

pub returns-in-Touched : goal.returns-in-Touched
returns-in-Touched c = λ session. touch_told c.calls_make.ensures _ _ session _ _ _ _ _ c.in-Touched.is c.touched.ensures

pub returns-in-NoSession : goal.returns-in-NoSession
returns-in-NoSession c = λ session. touch_quiet c.calls_make.ensures _ _ session _ _ _ _ c.in-NoSession.is

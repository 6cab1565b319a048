use Rattle.hub_tellers.proofs.SessionLemmas.{freed_told}
use Rattle.hub_tellers.proofs.sessions.told_freed.Goals as goal

pub returns : goal.returns
returns c = λ closing same. freed_told c.calls_make.ensures _ _ closing _ _ _ _ same c.freed.ensures

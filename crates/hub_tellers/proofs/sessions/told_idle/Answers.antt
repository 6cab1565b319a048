use Rattle.hub_tellers.proofs.SessionLemmas.{idle_some, idle_none}
use Rattle.hub_tellers.proofs.sessions.told_idle.Goals as goal

pub returns-in-Some : goal.returns-in-Some
returns-in-Some c = idle_some c.args.caller c.args.idle _ c.args.now _ _ _ c.in-Some.is c.ended.ensures

pub returns-in-None : goal.returns-in-None
returns-in-None c = idle_none c.args.caller c.args.idle c.args.now c.args.piece.now tt c.in-None.is

use Rattle.hub_tellers.proofs.RecordLemmas.{next_told, next_stopped}
use Rattle.hub_tellers.proofs.telling.told_next.Goals as goal

pub returns-in-Ok : goal.returns-in-Ok
returns-in-Ok c = λ since past held. next_told since past c.args.change.now _ _ _ _ _ _ c.in-Ok.is held c.told_change.ensures

pub returns-in-Err : goal.returns-in-Err
returns-in-Err c = λ since past held. next_stopped since past c.args.change.now _ _ _ _ c.in-Err.is held

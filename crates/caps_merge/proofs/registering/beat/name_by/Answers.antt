use Rattle.caps_merge.proofs.BeatLemmas.{name_told, name_wrong}
use Rattle.caps_merge.proofs.registering.beat.name_by.Goals as goal

pub returns-in-Ok-clause-ok : goal.returns-in-Ok-clause-ok
returns-in-Ok-clause-ok c = λ ms h. name_told ms c.in-Ok.name (c.in-Ok.ensures.ok ms h)

pub returns-in-Err-clause-err : goal.returns-in-Err-clause-err
returns-in-Err-clause-err c = λ ne ms h. name_wrong ms c.in-Err.fault (c.in-Err.ensures.err ne ms h)

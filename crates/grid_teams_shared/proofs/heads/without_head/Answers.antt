use Rattle.grid_teams_shared.proofs.HeadLemmas.{whole_accepted}
use Rattle.grid_teams_shared.proofs.heads.without_head.Goals as goal

pub returns-in-Whole-clause-told : goal.returns-in-Whole-clause-told
returns-in-Whole-clause-told c = λ limits bytes f n. let x = c.in-Whole.ensures.told limits bytes f in (x.0, whole_accepted limits bytes x.0 x.1 _ x.2)

use Rattle.std.proofs.Common.{inl, inr}
use Rattle.grid_teams_top.proofs.heads.reads_on.Goals as goal

pub returns-in-Some-clause-over : goal.returns-in-Some-clause-over
returns-in-Some-clause-over c = λ _ limits fed f. let x = c.in-Some.ensures limits fed f in inr (inl (x.0, x.1))

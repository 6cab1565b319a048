use Rattle.std.proofs.Common.{inl, inr}
use Rattle.grid_teams_top.proofs.HeadLemmas.{not_below, whole_accepted}
use Rattle.grid_teams_top.proofs.heads.reads_further.Goals as goal

pub returns-in-Whole-clause-over : goal.returns-in-Whole-clause-over
returns-in-Whole-clause-over c = λ _ limits fed f. let x = c.in-Whole.ensures.told limits fed f in inr (inl (x.0, whole_accepted limits fed x.0 x.1 _ x.2))

pub returns-in-More-clause-over : goal.returns-in-More-clause-over
returns-in-More-clause-over c = λ e limits fed f. inl (not_below _ _ e c.requires.within)

pub returns-in-Refused-clause-over : goal.returns-in-Refused-clause-over
returns-in-Refused-clause-over c = λ _ limits fed f. inr (inr (_, c.in-Refused.ensures.told limits fed f))

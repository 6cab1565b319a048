use Rattle.std.proofs.Common.{Ok, refl}
use Rattle.caps_merge.proofs.OwnTimeLemmas.{own_times}
use Rattle.caps_merge.proofs.laws.own_times_are_read.Goals as goal

pub returns : goal.returns
returns c = λ body lists h. own_times body (Ok lists) lists h refl

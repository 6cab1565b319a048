use Rattle.wd_bodies.proofs.ReadAgainLemmas.{value-read-again}
use Rattle.wd_bodies.proofs.laws.values_are_read_again.Goals as goal

pub returns : goal.returns
returns c = λ text j e within. value-read-again text j e within

use Rattle.wd_bodies.proofs.ReadAgainLemmas.{start-read}
use Rattle.wd_bodies.proofs.laws.starts_are_read_again.Goals as goal

pub returns : goal.returns
returns c = λ wanted ms e within. start-read wanted ms e within

use Rattle.wd_bodies.proofs.ReadAgainLemmas.{error-read}
use Rattle.wd_bodies.proofs.laws.errors_are_read_again.Goals as goal

pub returns : goal.returns
returns c = λ code message. error-read code message

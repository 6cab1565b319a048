use Rattle.wd_bodies.proofs.ReadAgainLemmas.{created-read}
use Rattle.wd_bodies.proofs.laws.created_are_read_again.Goals as goal

pub returns : goal.returns
returns c = λ session caps ms id e within. created-read session caps ms id e within

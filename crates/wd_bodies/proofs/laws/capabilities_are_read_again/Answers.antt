use Rattle.wd_bodies.proofs.WrittenMembers.{caps-read}
use Rattle.wd_bodies.proofs.laws.capabilities_are_read_again.Goals as goal

pub returns : goal.returns
returns c = λ caps ms e within. caps-read caps ms e within

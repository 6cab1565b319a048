use Rattle.again_link.proofs.AgainLemmas.{untold}
use Rattle.again_link.proofs.laws.last_bytes_are_untold.Goals as goal

pub returns : goal.returns
returns c = untold

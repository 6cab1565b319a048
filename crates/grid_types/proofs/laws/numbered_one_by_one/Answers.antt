use Rattle.grid_types.proofs.MoveLemmas.{numbered}
use Rattle.grid_types.proofs.laws.numbered_one_by_one.Goals as goal

pub returns : goal.returns
returns c = numbered

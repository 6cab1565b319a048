use Rattle.std.proofs.Common.{refl}
use Rattle.grid_types.specs.HubAnswers.{hub}
use Rattle.grid_types.proofs.worked.full_grid.Goals as goal

pub returns : goal.returns
unfolding hub
returns c = refl

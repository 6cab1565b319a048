use Rattle.std.proofs.Common.{arith}
use Rattle.std.proofs.lemmas.Grind.{common_steps}
use Rattle.hub_status.specs.Status.{written_names}
use Rattle.hub_status.proofs.nodes.push_names.Goals as goal

pub returns : goal.returns
unfolding written_names
returns c = grind (arith, common_steps)

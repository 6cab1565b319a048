use Rattle.std.proofs.Common.{arith}
use Rattle.std.proofs.lemmas.Grind.{common_steps}
use Rattle.grid_types.specs.Capabilities.{written_caps}
use Rattle.wd_bodies.proofs.capabilities.text_for_nodes.Goals as goal

pub returns : goal.returns
unfolding written_caps
returns c = grind (arith, common_steps)

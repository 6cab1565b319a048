use Rattle.std.proofs.Common.{arith}
use Rattle.std.proofs.lemmas.Grind.{common_steps}
use Rattle.hub_status.specs.Status.{written_node}
use Rattle.hub_status.proofs.nodes.push_node.Goals as goal

pub returns : goal.returns
unfolding written_node
returns c = grind (arith, common_steps)

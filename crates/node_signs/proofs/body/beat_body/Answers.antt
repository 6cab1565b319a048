use Rattle.std.proofs.Common.{arith}
use Rattle.std.proofs.lemmas.Grind.{common_steps}
use Rattle.node_signs.specs.Signs.{beat_bytes}
use Rattle.node_signs.proofs.body.beat_body.Goals as goal

pub returns : goal.returns
unfolding beat_bytes
returns c = grind (arith, common_steps)

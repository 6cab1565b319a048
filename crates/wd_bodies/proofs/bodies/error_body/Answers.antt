use Rattle.std.proofs.Common.{arith}
use Rattle.std.proofs.lemmas.Grind.{common_steps}
use Rattle.wd_bodies.specs.Bodies.{error_bytes}
use Rattle.wd_bodies.proofs.bodies.error_body.Goals as goal

pub returns : goal.returns
unfolding error_bytes
returns c = grind (arith, common_steps)

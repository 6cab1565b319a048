use Rattle.std.proofs.Common.{arith}
use Rattle.std.proofs.lemmas.Grind.{common_steps}
use Rattle.hub_status.specs.Status.{status_bytes, written_status}
use Rattle.hub_status.proofs.status.status_body.Goals as goal

pub returns : goal.returns
unfolding status_bytes written_status
returns c = grind (arith, common_steps)

use Rattle.std.proofs.Common.{arith}
use Rattle.std.proofs.lemmas.Grind.{common_steps}
use Rattle.hub_status.specs.Queue.{queue_bytes}
use Rattle.hub_status.proofs.queue.queue_body.Goals as goal

pub returns : goal.returns
unfolding queue_bytes
returns c = grind (arith, common_steps)

use Rattle.std.proofs.Common.{append_assoc}
use Rattle.hub_status.specs.Status.{written_limits}
use Rattle.hub_status.proofs.nodes.push_limits.Goals as goal

pub returns : goal.returns
unfolding written_limits
returns c = rw (c.in_ok-write-2.ensures.bytes, c.in_ok-write.ensures.bytes, c.availability.ensures) (simp append_assoc)

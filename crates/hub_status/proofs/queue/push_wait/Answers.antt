use Rattle.std.proofs.Common.{append_assoc}
use Rattle.hub_status.specs.Queue.{written_wait}
use Rattle.hub_status.proofs.queue.push_wait.Goals as goal

pub returns : goal.returns
unfolding written_wait
returns c = rw (c.in_ok-write-2.ensures.bytes, c.in_ok-write.ensures.bytes) (simp append_assoc)

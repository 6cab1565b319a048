use Rattle.std.proofs.Common.{append_assoc}
use Rattle.node_signs.specs.Signs.{written_group}
use Rattle.node_signs.proofs.body.push_group.Goals as goal

pub returns : goal.returns
unfolding written_group
returns c = rw (c.in_ok-push_str.ensures.bytes, c.in_ok-push_caps.ensures, c.in_ok-write.ensures.bytes) (simp append_assoc)

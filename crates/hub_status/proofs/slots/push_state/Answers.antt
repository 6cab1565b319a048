use Rattle.std.proofs.Common.{append_assoc}
use Rattle.hub_status.specs.Status.{written_state}
use Rattle.hub_status.proofs.slots.push_state.Goals as goal

pub returns : goal.returns
unfolding written_state
returns c =
    rw (c.in_ok-push_str.ensures.bytes, c.in_ok-push_session.ensures, c.in_ok-write.ensures.bytes, c.state_name.ensures) (simp append_assoc)

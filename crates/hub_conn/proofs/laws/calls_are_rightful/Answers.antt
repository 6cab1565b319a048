use Rattle.hub_conn.proofs.CallLemmas as call
use Rattle.hub_conn.proofs.laws.calls_are_rightful.Goals as goal

pub returns : goal.returns
returns c = record {
  left_beside = call.left_beside c.starts_stand_by_their_wants.ensures;
  rightful = call.rightful c.starts_stand_by_their_wants.ensures;
  none_held = call.none_held;
}

use Rattle.node_client.specs.StandLaws.{held_is_fresh, asking_is_fresh, awaits_its_want, holds_its_want, stands_leads, fails_rightly, holds_one}
use Rattle.node_client.proofs.laws.starts_stand_by_their_wants.Goals as goal

pub returns : goal.returns
returns c = record {
  held_are_fresh = held_is_fresh;
  asking_are_fresh = asking_is_fresh;
  await_their_want = awaits_its_want;
  hold_their_want = holds_its_want;
  lead = stands_leads;
  fail_rightly = fails_rightly;
  hold_one = holds_one;
}

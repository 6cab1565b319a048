use Rattle.std.proofs.Common.{◌≡◌, drop}
use Rattle.grid_types.specs.Lists.{first_some}
use Rattle.grid_types.specs.QueueTime.{asked_time}
use Rattle.grid_types.proofs.queue_time.time_of_list.Given as goal

-- the first that asks lies with those that are left
abbrev pub invariant-loop-member : goal.invariant-loop-member
invariant-loop-member l = first_some asked_time (drop l.member-index l.members) ≡ first_some asked_time l.members

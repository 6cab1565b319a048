use Rattle.std.proofs.Common.{◌≡◌, drop}
use Rattle.grid_types.specs.Lists.{first_some}
use Rattle.grid_types.specs.QueueTime.{asked_time}
use Rattle.grid_types.proofs.queue_time.time_of_choices.Given as goal

-- the first that asks lies with those that are left
abbrev pub invariant-loop-caps : goal.invariant-loop-caps
invariant-loop-caps l = first_some (first_some asked_time) (drop l.caps-index l.lists) ≡ first_some (first_some asked_time) l.lists

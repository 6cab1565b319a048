use Rattle.std.proofs.Common.{◌≡◌, ◌++◌, drop}
use Rattle.grid_replay.specs.Replays.{all_off}
use Rattle.grid_replay.proofs.replay.push_removals.Given as goal

abbrev pub invariant-loop-given : goal.invariant-loop-given
invariant-loop-given l = l.items ++ all_off (drop l.given-index l.uses) ≡ l.initial.items ++ all_off l.uses

use Rattle.std.proofs.Common.{◌≡◌, drop}
use Rattle.grid_replay.specs.Lasts.{last_from, last_in}
use Rattle.grid_replay.proofs.replay.last_in.Given as goal

abbrev pub invariant-loop-stay : goal.invariant-loop-stay
invariant-loop-stay l = last_from l.last l.slot (drop l.stay-index l.stays) ≡ last_in l.slot l.stays

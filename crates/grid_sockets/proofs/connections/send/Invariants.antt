use Rattle.std.proofs.Common.{length, ◌-◌, ◌≤◌}
use Rattle.grid_sockets.proofs.connections.send.Given as goal

abbrev pub invariant-pieces : goal.invariant-pieces
invariant-pieces g l = l.done ≤ length l.bytes

abbrev pub decreases-pieces : goal.decreases-pieces
decreases-pieces g l = length l.bytes - l.done

use Rattle.std.proofs.Common.{length}
use Rattle.grid_play.proofs.crew.+register_all.Given as goal

-- how many nodes are left
abbrev pub decreases-register_all : goal.decreases-register_all
decreases-register_all l = length l.played.now

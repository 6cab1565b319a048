use Rattle.std.proofs.Common.{length}
use Rattle.kept_play.proofs.places.+place_all.Given as goal

-- how many nodes are left
abbrev pub decreases-place_all : goal.decreases-place_all
decreases-place_all g l = length l.played.now

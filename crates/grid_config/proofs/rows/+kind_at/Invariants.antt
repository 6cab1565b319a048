use Rattle.std.proofs.Common.{length}
use Rattle.grid_config.proofs.rows.+kind_at.Given as goal

abbrev pub decreases-kind_at : goal.decreases-kind_at
decreases-kind_at l = length l.rows.now

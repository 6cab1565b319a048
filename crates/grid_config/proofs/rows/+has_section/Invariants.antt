use Rattle.std.proofs.Common.{length}
use Rattle.grid_config.proofs.rows.+has_section.Given as goal

abbrev pub decreases-has_section : goal.decreases-has_section
decreases-has_section l = length l.rows.now

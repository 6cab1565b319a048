use Rattle.std.proofs.Common.{length}
use Rattle.grid_teams_run.proofs.teams.+start_behind.Given as goal

-- how many teams are left
abbrev pub decreases-start_behind : goal.decreases-start_behind
decreases-start_behind l = length l.said.now

use Rattle.grid_teams_shared.specs.Teams.{PassesAre, passes_of, teams_of}
use Rattle.trial_faults.proofs.teams.all_hold.Given as goal

abbrev pub invariant-loop-row : goal.invariant-loop-row
invariant-loop-row g l = PassesAre (teams_of l.teams) (passes_of l.passes)

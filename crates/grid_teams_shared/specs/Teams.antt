-- Teams with hubs that threads share, and passes of these.
use Rattle.std.specs.Prelude.{ℕ, List}
use Rattle.std.specs.List.{AllZip}
use Rattle.grid_teams.specs.Places.{names_by}
use Rattle.hub_cell.specs.declared.hub.Pass.{Pass}
use Rattle.hub_cell.specs.Passes.{IsOf}
use Rattle.grid_teams_shared.specs.declared.teams.SharedTeam.{SharedTeam}
use Rattle.grid_teams_shared.specs.declared.teams.SharedTeams.{SharedTeams}
use Rattle.grid_teams_shared.specs.declared.teams.TeamPasses.{TeamPasses}

-- the teams, in order
abbrev pub teams_of : SharedTeams → List SharedTeam
teams_of teams = teams.teams.items

-- the names of the teams
abbrev pub names_in : List SharedTeam → List (List ℕ)
names_in teams = names_by (λ (t : SharedTeam). t.name) teams

-- the passes, one for each team, in order
abbrev pub passes_of : TeamPasses → List Pass
passes_of passes = passes.passes.items

-- the pass is of the team's hub
abbrev pub IsPassOf : SharedTeam → Pass → Type 0
IsPassOf team pass = IsOf team.hub pass

-- as many passes as teams, each of its team's hub
abbrev pub PassesAre : List SharedTeam → List Pass → Type 0
PassesAre teams passes = AllZip IsPassOf teams passes

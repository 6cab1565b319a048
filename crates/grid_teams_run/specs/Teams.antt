-- Teams that are started.
use Rattle.std.specs.Prelude.{◌≡◌, ◌<◌, ◌^◌, List, [], ◌∷◌, length}
use Rattle.grid_play.specs.Crew.{AllFit}
use Rattle.team_words.specs.declared.team_play.TeamPlay.{TeamPlay}
use Rattle.grid_teams_top.specs.declared.playing.PlayingTeam.{PlayingTeam}
use Rattle.grid_teams_top.specs.Blocks.{PlaysFor, standing_of}
use Rattle.grid_teams_top.specs.Play.{first_of}

-- each team's nodes are as a hub's nodes may be, and few
abbrev pub AllMayStart : List TeamPlay → Type 0
AllMayStart [] = Unit {0}
AllMayStart (t ∷ said) = AllFit t.nodes × (length t.nodes < 2 ^ 16) × AllMayStart said

-- each team plays what was said of it, and stands where it stands when nothing was read
abbrev pub AllStarted : List TeamPlay → List PlayingTeam → Type 0
AllStarted [] [] = Unit {0}
AllStarted [] (t ∷ teams) = ⊥
AllStarted (said ∷ others) [] = ⊥
AllStarted (said ∷ others) (t ∷ teams) = PlaysFor said t × (standing_of t ≡ first_of said) × AllStarted others teams

-- The team of a connection.
use Rattle.std.specs.Prelude.{◌≡◌, ℕ, List, Option, None, Some, codes}
use Rattle.httparse.specs.Grammar.{RequestHead}
use Rattle.http_frames.specs.declared.frames.FrameLimits.{FrameLimits}
use Rattle.http_frames.specs.Fields.{first_of, headers_of, values_of}
use Rattle.http_frames.specs.Frames.{IsAccepted}
use Rattle.grid_teams.specs.declared.naming.TeamName.{TeamName}
use Rattle.grid_teams.specs.declared.naming.TeamName.TheVariants as team

-- what a head names
abbrev pub named_by : RequestHead → Option (List ℕ)
named_by h = first_of (values_of (codes "Grid-Team") (headers_of h))

-- the accepted head of the bytes names that team, or none, or no head is accepted
abbrev pub IsTeamName : FrameLimits → List ℕ → TeamName → Type 0
IsTeamName limits bytes (team.Named name) = (h : RequestHead) × IsAccepted limits bytes h × (named_by h ≡ Some name.now)
IsTeamName limits bytes team.Unnamed = (h : RequestHead) × IsAccepted limits bytes h × (named_by h ≡ None)
IsTeamName limits bytes team.NoHead = (h : RequestHead) → ¬ (IsAccepted limits bytes h)

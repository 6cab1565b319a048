-- Teams that play in memory, and the blocks of bytes that are served for them.
use Rattle.std.specs.Prelude.{◌≡◌, ℕ, zero, suc, false, true, List, [], ◌∷◌, Option, None, Some, Ok, slice_get}
use Rattle.std.specs.Borrow.{Bor}
use Rattle.http_frames.specs.declared.frames.TheConstants.{LIMITS}
use Rattle.grid_types.specs.Config.{default_config}
use Rattle.node_client.specs.Steps.{Step}
use Rattle.conn_script.specs.Responses.{bytes_of, failure}
use Rattle.conn_script.specs.declared.wants.Served.{Served}
use Rattle.hub_conn.specs.Conversation.{Finished}
use Rattle.wd_bodies.specs.declared.code.ErrorCode.TheVariants as code
use Rattle.grid_play.specs.Crew.{first_crew}
use Rattle.grid_play.specs.Talks.{AscendFrom, Standing, standing, Talks}
use Rattle.grid_teams.specs.Naming.{IsTeamName}
use Rattle.grid_teams.specs.Places.{names_by, place_of}
use Rattle.grid_teams.specs.declared.naming.TeamName.{TeamName}
use Rattle.grid_teams.specs.declared.naming.TeamName.TheVariants as team
use Rattle.team_words.specs.declared.team_play.TeamPlay.{TeamPlay}
use Rattle.grid_teams.specs.declared.telling.TheConstants.{NOT_NAMED, NO_SUCH_TEAM}
use Rattle.grid_teams_top.specs.Apart.{AreApart, RunsAlone}

-- ---- teams

abbrev pub names_of : List TeamPlay → List (List ℕ)
names_of teams = names_by (λ t. t.name) teams

-- a hub without an entry, no nodes, and a clock at 0
abbrev pub nowhere : Standing
nowhere = standing [] [] 0

-- where a team stands when nothing was read: its nodes have registered, and its clock is at 0
abbrev pub first_of : TeamPlay → Standing
first_of t = let crew = first_crew default_config t.nodes in standing crew.history crew.nodes 0

abbrev pub first_standings : List TeamPlay → ℕ → Standing
first_standings [] place = nowhere
first_standings (t ∷ teams) zero = first_of t
first_standings (t ∷ teams) (suc place) = first_standings teams place

-- ---- blocks

-- the place of the team that a block's bytes name, where they name one, and its bytes
pub record Block : Type 0 where
  pub place : Option ℕ
  pub bytes : List ℕ

abbrev pub place_named : List (List ℕ) → TeamName → Option ℕ
place_named names (team.Named name) = place_of name.now names
place_named names team.Unnamed = None
place_named names team.NoHead = None

-- the bytes belong to the team of that place, or to none
pub record IsWhose (names : List (List ℕ)) (block : Block) : Type 0 where
  pub name : TeamName
  pub named : IsTeamName LIMITS block.bytes name
  pub place_is : block.place ≡ place_named names name

-- From where the team stands the bytes are a conversation with it in which no step was out of memory.
pub record TeamServes (t : TeamPlay) (old : Standing) (bytes out : List ℕ) (new : Standing) : Type 0 where
  pub served : Served
  pub steps : List Step
  pub numbered : AscendFrom 1 old.nodes
  pub told : served.short ≡ false
  pub talks : Talks default_config (first_crew default_config t.nodes).numbers old (Ok served) bytes steps out new

-- so does the team at a place
abbrev pub Serves : List TeamPlay → ℕ → Standing → Block → List ℕ → Standing → Type 0
Serves teams place old block out new = (t : TeamPlay) × (slice_get teams place ≡ Some t) × TeamServes t old block.bytes out new

-- what goes out for a block of no team: that its head names none, or one that is not there; or, without an accepted head, what a
-- conversation without a step writes
pub data Unserved (names : List (List ℕ)) (block : Block) (out : List ℕ) : Type 0 where
  unnamed : IsTeamName LIMITS block.bytes team.Unnamed
      → out ≡ bytes_of (failure code.InvalidArgument NOT_NAMED.now) true → Unserved names block out
  unknown : (name : Bor (List ℕ)) → IsTeamName LIMITS block.bytes (team.Named name) → place_of name.now names ≡ None
      → out ≡ bytes_of (failure code.InvalidArgument NO_SUCH_TEAM.now) true → Unserved names block out
  no_head : (served : Served) → IsTeamName LIMITS block.bytes team.NoHead → Finished None (Ok served) block.bytes [] out → Unserved names block out

-- ---- the laws

abbrev pub TeamsRunAlone : Type 0
TeamsRunAlone = (teams : List TeamPlay) → RunsAlone (Serves teams) (λ (b : Block). b.place) (Unserved (names_of teams))

abbrev pub TeamsAreApart : Type 0
TeamsAreApart = (teams : List TeamPlay) → AreApart (Serves teams) (λ (b : Block). b.place) (Unserved (names_of teams))

-- A connection that is served by the hub of the team that it belongs to.
use Rattle.std.specs.Prelude.{◌≡◌, ◌≢◌, ℕ, ◌≤◌, List, [], ◌++◌, length, Some, Result, slice_get, slice_set}
use Rattle.std.specs.Borrow.{Bor}
use Rattle.grid_outside.specs.Told.{ClockView, Gains, LinkView, Tick}
use Rattle.grid_outside.specs.declared.exchange.Ask.{Ask}
use Rattle.grid_outside.specs.Exchanges.{Came}
use Rattle.http_frames.specs.declared.frames.TheConstants.{LIMITS}
use Rattle.again_link.specs.Again.{Awaits, GivesOn, HandsOn, view_without}
use Rattle.hub_cell.specs.declared.hub.Pass.{Pass}
use Rattle.hub_cell.specs.Passes.{knows}
use Rattle.conn_script.specs.declared.wants.ConnFault.{ConnFault}
use Rattle.conn_script.specs.declared.wants.Served.{Served}
use Rattle.conn_script.specs.declared.wants.TheConstants.{LIMIT}
use Rattle.hub_workers.specs.World.{World, world_of}
use Rattle.hub_serving.specs.Outside.{outside_of}
use Rattle.hub_serving.specs.Served.{ServesConnection}
use Rattle.grid_teams.specs.Naming.{IsTeamName}
use Rattle.grid_teams.specs.Places.{place_of}
use Rattle.grid_teams.specs.declared.naming.TeamName.TheVariants as team
use Rattle.grid_teams_shared.specs.declared.teams.SharedTeam.{SharedTeam}
use Rattle.grid_teams_shared.specs.Teams.{names_in}
use Rattle.grid_teams_shared.specs.Unserved.{Unserved}

-- the passes of the teams, and what a connection has beside them: nodes, a clock with what it tells, and a link
pub record Around (N C : Type 0) : Type 0 where
  pub passes : List Pass
  pub nodes : N
  pub clock : C
  pub time : ClockView
  pub link : LinkView

abbrev pub around : {N C : Type 0} → List Pass → N → C → ClockView → LinkView → Around N C
around passes nodes clock time link = record { passes = passes; nodes = nodes; clock = clock; time = time; link = link }

-- what of it a hub's pass has
abbrev pub world_by : {N C : Type 0} → Pass → Around N C → World N C
world_by pass a = world_of (knows pass) a.nodes a.clock a.time

-- of the bytes that were read of a link, those that are left were not handed out again, and more were read only where none is left
pub record HandedOut (again : List ℕ) (old new : LinkView) : Type 0 where
  pub left : List ℕ
  pub hands : HandsOn again left
  pub gives : GivesOn old.given new.given
  pub awaits : Awaits left old new

module _ {N C : Type 0} (gives : N → List ℕ → Ask → Came → N → Type 0) (tells : C → Tick → ℕ → C → Type 0) where
  -- The team at a place has served the connection by the pass at that place, and each other pass is as it was. Of the bytes that were
  -- read these are left: the conversation did not come to them.
  pub record ServedAt (teams : List SharedTeam) (place : ℕ) (left : List ℕ) (old : Around N C) (result : Result Served ConnFault)
      (new : Around N C) : Type 0 where
    pub chosen : SharedTeam
    pub before : Pass
    pub behind : Pass
    pub stands : slice_get teams place ≡ Some chosen
    pub stood : slice_get old.passes place ≡ Some before
    pub passes_are : new.passes ≡ slice_set old.passes place behind
    pub serves : ServesConnection chosen.hub gives tells (outside_of (world_by before old) old.link) result
        (outside_of (world_by behind new) (view_without left new.link))

  -- Bytes were read of which the first head names a team, and more behind them. That team's hub has served the connection. If it did
  -- not come to the last ones of the first bytes, no more were read, and it is a conversation about the bytes in front of these.
  pub record ServedByName (teams : List SharedTeam) (old : Around N C) (result : Result Served ConnFault) (new : Around N C) : Type 0 where
    pub name : Bor (List ℕ)
    pub read_first : List ℕ
    pub named : IsTeamName LIMITS read_first (team.Named name)
    pub place : ℕ
    pub place_is : place_of name.now (names_in teams) ≡ Some place
    pub more : List ℕ
    pub gave : Gains old.link.given new.link.given (read_first ++ more)
    pub within : length (read_first ++ more) ≤ LIMIT
    pub left : List ℕ
    pub hands : HandsOn read_first left
    pub rests : left ≢ [] → more ≡ []
    pub served : ServedAt teams place left old result new

  -- The hub of the team that the first head names has served the connection by that team's pass, and every other pass is as it was.
  -- Or no hub has: then each pass is as it was, and no node and no clock was asked.
  pub data ServesTeams (teams : List SharedTeam) (old : Around N C) (result : Result Served ConnFault) (new : Around N C) : Type 0 where
    by_team : ServedByName teams old result new → ServesTeams teams old result new
    by_none : new.passes ≡ old.passes → new.nodes ≡ old.nodes → new.clock ≡ old.clock → Unserved (names_in teams) old.link result new.link →
        ServesTeams teams old result new

-- Connections that no hub serves.
use Rattle.std.specs.Prelude.{◌≡◌, ℕ, ◌<◌, ◌≤◌, true, List, [], ◌++◌, length, None, Result, Ok, Err}
use Rattle.std.specs.Borrow.{Bor}
use Rattle.grid_outside.specs.Counts.{Rose}
use Rattle.grid_outside.specs.Told.{LinkView}
use Rattle.http_frames.specs.declared.frames.TheConstants.{LIMITS}
use Rattle.wd_bodies.specs.declared.code.ErrorCode.TheVariants as code
use Rattle.conn_script.specs.Responses.{bytes_of, failure}
use Rattle.conn_script.specs.declared.wants.ConnFault.{ConnFault}
use Rattle.conn_script.specs.declared.wants.ConnFault.TheVariants as faults
use Rattle.conn_script.specs.declared.wants.End.TheVariants as ends
use Rattle.conn_script.specs.declared.wants.Served.{Served}
use Rattle.conn_script.specs.declared.wants.TheConstants.{LIMIT}
use Rattle.hub_conn.specs.Conversation.{Finished}
use Rattle.hub_conn.specs.Talk.{result_cause}
use Rattle.hub_links.specs.Links.{Moved, RoseFor}
use Rattle.grid_teams.specs.Naming.{IsTeamName}
use Rattle.grid_teams.specs.Places.{place_of}
use Rattle.grid_teams.specs.declared.naming.TeamName.{TeamName}
use Rattle.grid_teams.specs.declared.naming.TeamName.TheVariants as team
use Rattle.grid_teams.specs.declared.telling.TheConstants.{NOT_NAMED, NO_SUCH_TEAM}
use Rattle.grid_teams_shared.specs.Telling.{served_none}

-- What a client is told that belongs to no team: the error with this message, and the connection ends. Where a write fails a front
-- of it was written, and without memory nothing.
abbrev pub IsTold : List ℕ → LinkView → Result Served ConnFault → List ℕ → LinkView → Type 0
IsTold response old (Ok served) written new = (served ≡ served_none ends.Asked) × (written ≡ response)
IsTold response old (Err faults.Write) written new =
    ((unwritten : List ℕ) × (response ≡ written ++ unwritten) × (0 < length unwritten)) × Rose old.write_faults new.write_faults
IsTold response old (Err faults.Memory) written new = written ≡ []
IsTold response old (Err faults.Read) written new = ⊥

-- These bytes were read, of which the first head names no team that is there, and the client is told so.
pub record ToldOff (name : TeamName) (message : List ℕ) (old : LinkView) (result : Result Served ConnFault) (new : LinkView) : Type 0 where
  pub bytes : List ℕ
  pub written : List ℕ
  pub named : IsTeamName LIMITS bytes name
  pub moved : Moved old bytes written new
  pub within : length bytes ≤ LIMIT
  pub unended : new.ends ≡ old.ends
  pub told : IsTold (bytes_of (failure code.InvalidArgument message) true) old result written new

-- Bytes without an accepted head are a conversation without a step.
pub record Headless (old : LinkView) (result : Result Served ConnFault) (new : LinkView) : Type 0 where
  pub bytes : List ℕ
  pub written : List ℕ
  pub named : IsTeamName LIMITS bytes team.NoHead
  pub finished : Finished None result bytes [] written
  pub moved : Moved old bytes written new
  pub within : length bytes ≤ LIMIT
  pub blames : RoseFor (result_cause result) old new

-- There was no memory for the bytes of a head.
pub record Unread (old : LinkView) (result : Result Served ConnFault) (new : LinkView) : Type 0 where
  pub bytes : List ℕ
  pub fault : result ≡ Err faults.Memory
  pub finished : Finished None result bytes [] []
  pub moved : Moved old bytes [] new
  pub within : length bytes ≤ LIMIT
  pub unended : new.ends ≡ old.ends

-- no hub serves it: its head names no team, or one that is not there; or no head is accepted
pub data Unserved (names : List (List ℕ)) (old : LinkView) (result : Result Served ConnFault) (new : LinkView) : Type 0 where
  unnamed : ToldOff team.Unnamed NOT_NAMED.now old result new → Unserved names old result new
  unknown : (name : Bor (List ℕ)) → place_of name.now names ≡ None → ToldOff (team.Named name) NO_SUCH_TEAM.now old result new →
      Unserved names old result new
  headless : Headless old result new → Unserved names old result new
  unread : Unread old result new → Unserved names old result new

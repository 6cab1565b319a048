-- What a link tells, and how that goes on.
use Rattle.std.specs.Prelude.{◌≡◌, ℕ, ◌<◌, ◌≤◌, List, length}
use Rattle.grid_outside.specs.Counts.{Rose}
use Rattle.grid_outside.specs.Told.{Gains, LinkView}
use Rattle.conn_script.specs.declared.wants.Answer.{Answer}
use Rattle.conn_script.specs.declared.wants.Answer.TheVariants as told
use Rattle.conn_script.specs.Wanted.{Awaited, IsAwaited}
use Rattle.hub_conn.specs.Talk.{Cause, of_read, of_write, of_end, of_nothing, cause_of}

-- it gave just these bytes and took just those, where it tells them, and no count fell
pub record Moved (old : LinkView) (bytes written : List ℕ) (new : LinkView) : Type 0 where
  pub given : Gains old.given new.given bytes
  pub taken : Gains old.taken new.taken written
  pub read_faults : old.read_faults ≤ new.read_faults
  pub write_faults : old.write_faults ≤ new.write_faults
  pub ends : old.ends ≤ new.ends

-- The count of what is blamed rose. Where nothing outside is blamed, the end of the input was not read.
abbrev pub RoseFor : Cause → LinkView → LinkView → Type 0
RoseFor of_read old new = Rose old.read_faults new.read_faults
RoseFor of_write old new = Rose old.write_faults new.write_faults
RoseFor of_end old new = Rose old.ends new.ends
RoseFor of_nothing old new = new.ends ≡ old.ends

-- what came of a read or of a write, with these bytes given or taken
pub record DoesLink (answer : Answer) (awaited : Awaited) (old : LinkView) (bytes written : List ℕ) (new : LinkView) : Type 0 where
  pub fits : IsAwaited answer awaited
  pub moved : Moved old bytes written new
  pub rose : RoseFor (cause_of answer) old new

-- some bytes came or were taken, where any did
abbrev pub MovesSome : Answer → Type 0
MovesSome (told.Bytes bytes) = 0 < length bytes.now
MovesSome (told.Wrote n) = 0 < n
MovesSome answer = Unit {0}

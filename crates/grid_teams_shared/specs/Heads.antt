-- The head at the front of a connection is read.
use Rattle.std.specs.Prelude.{◌≡◌, ℕ, ◌+◌, ◌<◌, ◌≤◌, Bool, true, false, List, length, take, Option, None, Some}
use Rattle.httparse.specs.Grammar.{RequestHead}
use Rattle.http_frames.specs.declared.frames.FrameLimits.{FrameLimits}
use Rattle.http_frames.specs.declared.frames.TheConstants.{LIMITS}
use Rattle.http_frames.specs.Feeding.{Fed}
use Rattle.http_frames.specs.Frames.{IsAccepted, IsAwaited, IsRefused}
use Rattle.grid_outside.specs.declared.source.TheConstants.{PIECE_BYTES}
use Rattle.grid_outside.specs.Counts.{Rose}
use Rattle.grid_outside.specs.Told.{LinkView}
use Rattle.grid_teams_shared.specs.declared.ahead.Ahead.{Ahead}
use Rattle.grid_teams_shared.specs.declared.ahead.HeadEnd.{HeadEnd}
use Rattle.grid_teams_shared.specs.declared.ahead.HeadEnd.TheVariants as ending
use Rattle.grid_teams_shared.specs.declared.heads.Front.{Front}
use Rattle.grid_teams_shared.specs.declared.heads.Front.TheVariants as front
use Rattle.grid_teams_shared.specs.Links.{Gave}

-- no head is accepted
abbrev pub HasNoHead : FrameLimits → List ℕ → Type 0
HasNoHead limits bytes = (h : RequestHead) → ¬ (IsAccepted limits bytes h)

-- more bytes are awaited for a head
abbrev pub AwaitsHead : FrameLimits → List ℕ → Type 0
AwaitsHead limits bytes = ((waits : Bool) × IsAwaited limits bytes waits) × HasNoHead limits bytes

-- what is told of the head at the front of the bytes
abbrev pub IsFront : FrameLimits → List ℕ → Front → Type 0
IsFront limits bytes front.Accepted = (h : RequestHead) × IsAccepted limits bytes h
IsFront limits bytes (front.Refused why) = IsRefused limits bytes why × HasNoHead limits bytes
IsFront limits bytes front.Awaited = AwaitsHead limits bytes

abbrev pub is_awaited : Front → Bool
is_awaited front.Accepted = false
is_awaited (front.Refused why) = false
is_awaited front.Awaited = true

-- the bytes that the reader was fed
abbrev pub fed_of : Ahead → List ℕ
fed_of ahead = take ahead.fed ahead.bytes.items

-- all bytes were fed, and a head is awaited
abbrev pub Awaits : Ahead → Type 0
Awaits ahead = (length ahead.bytes.items ≤ ahead.fed) × AwaitsHead LIMITS (fed_of ahead)

-- how many bytes are read at most: a piece behind a head that is awaited
abbrev pub MOST : ℕ
MOST = LIMITS.head + PIECE_BYTES

-- These bytes were read since `old`, the reader was fed a front of them, and the input did not end.
pub record Reading (old : LinkView) (ahead : Ahead) (new : LinkView) : Type 0 where
  pub within : ahead.fed ≤ length ahead.bytes.items
  pub fed : Fed LIMITS ahead.reader (fed_of ahead)
  pub gave : Gave old ahead.bytes.items new
  pub unended : new.ends ≡ old.ends
  pub few : length ahead.bytes.items ≤ MOST

-- a head is awaited behind all bytes that were read
pub record CutOff (old : LinkView) (ahead : Ahead) (new : LinkView) : Type 0 where
  pub gave : Gave old ahead.bytes.items new
  pub few : length ahead.bytes.items ≤ MOST
  pub awaits : AwaitsHead LIMITS ahead.bytes.items

-- some bytes were read, and there was no memory for them
pub record Lacked (old new : LinkView) : Type 0 where
  pub bytes : List ℕ
  pub some : 0 < length bytes
  pub gave : Gave old bytes new
  pub unended : new.ends ≡ old.ends
  pub few : length bytes ≤ MOST

-- what was read, by how the reading ended
abbrev pub HeadEnded : LinkView → HeadEnd → Ahead → LinkView → Type 0
HeadEnded old ending.Accepted ahead new = Reading old ahead new × ((h : RequestHead) × IsAccepted LIMITS (fed_of ahead) h)
HeadEnded old (ending.Refused why) ahead new = Reading old ahead new × IsRefused LIMITS (fed_of ahead) why × HasNoHead LIMITS (fed_of ahead)
HeadEnded old ending.Ended ahead new = CutOff old ahead new × Rose old.ends new.ends
HeadEnded old ending.ReadFailed ahead new = CutOff old ahead new × (new.ends ≡ old.ends) × Rose old.read_faults new.read_faults
HeadEnded old ending.NoMemory ahead new = Lacked old new

-- it is read on, or has ended
abbrev pub ReadsOn : LinkView → Option HeadEnd → Ahead → LinkView → Type 0
ReadsOn old None ahead new = Reading old ahead new
ReadsOn old (Some end) ahead new = HeadEnded old end ahead new

-- The bytes that came and are not answered yet.
use Rattle.std.specs.Prelude.{◌≡◌, ◌≢◌, ℕ, ◌+◌, ◌≤◌, Bool, true, List, [], ◌++◌, length, drop, vec_capacity}
use Rattle.http_frames.specs.declared.frames.TheConstants.{LIMITS}
use Rattle.http_frames.specs.Frames.{Request, IsWhole, IsAwaited, IsRefused, closes}
use Rattle.http_frames.specs.Feeding.{Fed, awaits_more, is_whole, bytes_kept}
use Rattle.http_frames.specs.Feeding as reader
use Rattle.conn_script.specs.declared.wants.TheConstants.{PIECE}
use Rattle.hub_conn.specs.declared.inbox.Inbox.{Inbox}
use Rattle.hub_conn.specs.declared.inbox.Seen.{Seen}
use Rattle.hub_conn.specs.declared.inbox.Seen.TheVariants as seen

-- the bytes of the piece that were not read yet
abbrev pub unread : Inbox → List ℕ
unread inbox = drop inbox.fed inbox.piece.items

-- these bytes were read, as far as one request goes
pub record HasRead (inbox : Inbox) (front : List ℕ) : Type 0 where
  pub stands : Fed LIMITS inbox.reader front
  pub within : inbox.fed ≤ length inbox.piece.items
  pub fits : length inbox.piece.items ≤ PIECE

-- how many bytes it holds: those of the request at the front and those of the last piece
abbrev pub keeps_bytes : Inbox → ℕ
keeps_bytes inbox = bytes_kept inbox.reader + length inbox.piece.items

-- the most that it holds: a head, a body, a chunk line or trailers, and a piece
abbrev pub most_read : ℕ
most_read = 16_973_824

-- these bytes are not answered yet
abbrev pub Holds : Inbox → List ℕ → Type 0
Holds inbox bytes = (front : List ℕ) × HasRead inbox front × (bytes ≡ front ++ unread inbox)

abbrev pub HoldsSome : Inbox → Type 0
HoldsSome inbox = (bytes : List ℕ) × Holds inbox bytes

-- all bytes were read, or no more are awaited for the request at the front
abbrev pub IsFilled : Inbox → Type 0
IsFilled inbox = awaits_more inbox.reader ≡ true → unread inbox ≡ []

-- the request at the front is whole
abbrev pub HoldsWhole : Inbox → List ℕ → Request → Type 0
HoldsWhole inbox bytes f =
    (front : List ℕ) × HasRead inbox front × (bytes ≡ front ++ unread inbox)
    × IsWhole LIMITS front f.0 f.1 [] × (is_whole inbox.reader ≡ true)

abbrev pub HoldsSomeWhole : Inbox → Type 0
HoldsSomeWhole inbox = (bytes : List ℕ) × (f : Request) × HoldsWhole inbox bytes f

-- it holds what it held, of which as much was read
pub record HoldsSame (old new : Inbox) : Type 0 where
  pub holds : (bytes : List ℕ) → Holds old bytes → Holds new bytes
  pub whole : (bytes : List ℕ) (f : Request) → HoldsWhole old bytes f → HoldsWhole new bytes f
  pub unread_is : unread new ≡ unread old

-- no memory is held for bytes that aren't there or are done with
pub record HasNoSpare (inbox : Inbox) : Type 0 where
  pub piece : unread inbox ≡ [] → vec_capacity inbox.piece ≡ 0
  pub reader : reader.HasNoSpare inbox.reader

-- what stands at the front
abbrev pub IsSeen : Inbox → List ℕ → Seen → Type 0
IsSeen inbox bytes (seen.Whole closing) = (f : Request) × HoldsWhole inbox bytes f × (closing ≡ closes f.0)
IsSeen inbox bytes seen.More = (waits : Bool) × IsAwaited LIMITS bytes waits × (unread inbox ≡ [])
IsSeen inbox bytes (seen.Refused why) = IsRefused LIMITS bytes why × (bytes ≢ [])

-- the request is gone, and so many bytes stand behind it
abbrev pub LeavesRest : List ℕ → Request → ℕ → Inbox → Type 0
LeavesRest bytes f left new =
    (behind : List ℕ) × IsWhole LIMITS bytes f.0 f.1 behind × Holds new behind × (left ≡ length behind)

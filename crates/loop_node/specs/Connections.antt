-- What a connection to a node has told, and how far it is served.
use Rattle.std.specs.Prelude.{◌≡◌, ℕ, ◌+◌, ◌*◌, ◌≤◌, ◌<◌, ◌⊎◌, Bool, true, false, if◌then◌else◌, List, [], ◌++◌, length}
use Rattle.grid_outside.specs.Counts.{Rose}
use Rattle.grid_outside.specs.Told.{Gains, LinkView}
use Rattle.http_frames.specs.declared.frames.TheConstants.{LIMITS}
use Rattle.http_frames.specs.Frames.{Request, End, closed, asked, cut, refused, Frames, FramesFrom, closes}
use Rattle.loop_node.specs.declared.incoming.Incoming.{Incoming}
use Rattle.loop_node.specs.declared.incoming.TheConstants.{MOST_BYTES}
use Rattle.loop_node.specs.declared.serving.NodeFault.{NodeFault}
use Rattle.loop_node.specs.declared.serving.NodeFault.TheVariants as stop
use Rattle.loop_node.specs.Sessions.{Node}
use Rattle.http_frames.specs.declared.replies.NodeReply.{NodeReply}
use Rattle.loop_node.specs.Replies.{Answers}
use Rattle.loop_node.specs.Serving.{Serves, Served, CutShort, Spelled, IsWaiting, Waits, go_on, ask_in, reply_bytes}

-- no count fell
pub record Later (old new : LinkView) : Type 0 where
  pub ends : old.ends ≤ new.ends
  pub reads : old.read_faults ≤ new.read_faults
  pub writes : old.write_faults ≤ new.write_faults

-- these bytes came and these were written, where it tells them
pub record Moved (old new : LinkView) (came written : List ℕ) : Type 0 where
  pub given : Gains old.given new.given came
  pub taken : Gains old.taken new.taken written
  pub later : Later old new

-- a fault of reading or writing has its count
abbrev pub Blames : NodeFault → LinkView → LinkView → Type 0
Blames stop.Read old new = Rose old.read_faults new.read_faults
Blames stop.Write old new = Rose old.write_faults new.write_faults
Blames stop.Memory old new = Unit {0}

-- the node answers the request, and this is written
pub record Responds (node new : Node) (r : Request) (before after : LinkView) : Type 0 where
  pub reply : NodeReply
  pub answers : Answers node (ask_in r) reply new
  pub moved : Moved before after [] (reply_bytes reply (closes r.0))

-- what a client is told to go on, where it was not told before
abbrev pub further : Bool → Bool → List ℕ
further told waits = if told then [] else go_on waits

-- a front of these bytes was written
pub record WroteFront (before after : LinkView) (bytes : List ℕ) : Type 0 where
  pub front : List ℕ
  pub unwritten : List ℕ
  pub are : front ++ unwritten ≡ bytes
  pub moved : Moved before after [] front

-- a response was not written whole, or was not made
pub data StopsAt (node new : Node) (r : Request) (before after : LinkView) : Type 0 where
  unanswered : new ≡ node → Moved before after [] [] → StopsAt node new r before after
  answered : (reply : NodeReply) → Answers node (ask_in r) reply new
      → WroteFront before after (reply_bytes reply (closes r.0)) → StopsAt node new r before after

-- so many bytes were read, and nothing was written
pub record ReadSome (before after : LinkView) : Type 0 where
  pub piece : List ℕ
  pub moved : Moved before after piece []

-- a front of what tells the client to go on was written
pub record TellsFront (bytes : List ℕ) (told : Bool) (before after : LinkView) : Type 0 where
  pub waits : Bool
  pub exact : Waits bytes waits
  pub wrote : WroteFront before after (further told waits)

-- an end of input was answered, or no more bytes are read
abbrev pub IsLast : ℕ → LinkView → LinkView → Type 0
IsLast bytes old new = (bytes ≡ MOST_BYTES) ⊎ Rose old.ends new.ends

-- the cause of an end
abbrev pub HasEnded : End → ℕ → LinkView → LinkView → Type 0
HasEnded closed bytes old new = IsLast bytes old new
HasEnded (cut at) bytes old new = IsLast bytes old new
HasEnded asked bytes old new = Unit {0}
HasEnded (refused why at) bytes old new = Unit {0}

-- the bytes that came over the link are served to their end, or to the most that are read
pub record ServedOver (node new : Node) (old now : LinkView) (frames : ℕ) : Type 0 where
  pub bytes : List ℕ
  pub written : List ℕ
  pub end : End
  pub moved : Moved old now bytes written
  pub most : length bytes ≤ MOST_BYTES
  pub served : Served node new bytes written frames end
  pub ended : HasEnded end (length bytes) old now

-- a fault cut the connection short
pub record BrokenOff (node new : Node) (old now : LinkView) : Type 0 where
  pub bytes : List ℕ
  pub written : List ℕ
  pub moved : Moved old now bytes written
  pub cut_short : CutShort node new bytes written

-- whatever follows, these requests stand in front of what stands in the rest
abbrev pub ReadsOn : List ℕ → List ℕ → List ℕ → List Request → Type 0
ReadsOn bytes front rest requests =
    (more : List ℕ) (others : List Request) (end : End)
    → FramesFrom LIMITS (length front) (rest ++ more) others end
    → Frames LIMITS (bytes ++ more) (requests ++ others) end

-- the same, of the requests alone
abbrev pub SpellsOn : List ℕ → List ℕ → List Request → Type 0
SpellsOn bytes rest requests =
    (more : List ℕ) (others : List Request) (last : List ℕ)
    → Spelled (rest ++ more) others last → Spelled (bytes ++ more) (requests ++ others) last

-- the requests so far are answered, and the rest is not
pub record Serving (node now : Node) (came written : List ℕ) (rest : List ℕ) (told : Bool) (frames left : ℕ) : Type 0 where
  pub front : List ℕ
  pub requests : List Request
  pub responses : List ℕ
  pub came_is : came ≡ front ++ rest
  pub reads : ReadsOn came front rest requests
  pub spells : SpellsOn came rest requests
  pub serves : (more : List Request) (further : List ℕ) (new : Node) → Serves now more further new → Serves node (requests ++ more) (responses ++ further) new
  pub written_is : written ≡ responses ++ go_on told
  pub told_is : told ≡ true → IsWaiting rest
  pub frames_is : frames ≡ length requests
  pub left_is : length came + left ≡ MOST_BYTES

-- the same over a link
pub record ServingOver (node now : Node) (old new : LinkView) (incoming : Incoming) : Type 0 where
  pub came : List ℕ
  pub written : List ℕ
  pub moved : Moved old new came written
  pub serving : Serving node now came written incoming.bytes.items incoming.told incoming.frames incoming.left

-- after a turn the connection goes on, or all is served
abbrev pub AfterTurn : Bool → Node → Node → LinkView → LinkView → Incoming → Type 0
AfterTurn true node now old new incoming = ServingOver node now old new incoming
AfterTurn false node now old new incoming = ServedOver node now old new incoming.frames

-- a piece was read and put behind the bytes
pub record HasRead (old new : Incoming) (before after : LinkView) : Type 0 where
  pub piece : List ℕ
  pub some : 0 < length piece
  pub moved : Moved before after piece []
  pub bytes_is : new.bytes.items ≡ old.bytes.items ++ piece
  pub left_is : new.left + length piece ≡ old.left
  pub frames_is : new.frames ≡ old.frames
  pub told_is : new.told ≡ old.told

-- nothing was read: the most bytes came, or the end of input was answered
pub record HasEndedHere (old new : Incoming) (before after : LinkView) : Type 0 where
  pub same : new ≡ old
  pub moved : Moved before after [] []
  pub cause : (old.left ≡ 0) ⊎ Rose before.ends after.ends

abbrev pub IsRead : Bool → Incoming → Incoming → LinkView → LinkView → Type 0
IsRead true old new before after = HasRead old new before after
IsRead false old new before after = HasEndedHere old new before after

-- what the turns use up
abbrev pub work : Incoming → ℕ
work incoming = 2 * incoming.left + length incoming.bytes.items

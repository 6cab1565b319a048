-- The bytes that came on a connection, the steps that were made and the bytes that were written, as a whole.
use Rattle.std.specs.Prelude.{◌≡◌, ◌⊎◌, ℕ, ◌<◌, Bool, true, false, IsTrue, List, [], ◌∷◌, ◌++◌, length, Option, Result, Ok, Err}
use Rattle.httparse.specs.Grammar.{RequestHead}
use Rattle.http_frames.specs.declared.frames.TheConstants.{LIMITS}
use Rattle.http_frames.specs.declared.FrameFault.{FrameFault}
use Rattle.http_frames.specs.Frames as on
use Rattle.http_frames.specs.Frames.{Request, Frames, IsWhole, IsRefused, IsAccepted, closes, expects}
use Rattle.node_client.specs.Steps.{Step, met_want}
use Rattle.conn_script.specs.declared.wants.End.{End}
use Rattle.conn_script.specs.declared.wants.End.TheVariants as ends
use Rattle.conn_script.specs.declared.wants.ConnFault.{ConnFault}
use Rattle.conn_script.specs.declared.wants.ConnFault.TheVariants as faults
use Rattle.conn_script.specs.declared.wants.Served.{Served}
use Rattle.conn_script.specs.declared.wants.TheConstants.{LIMIT}
use Rattle.conn_script.specs.Responses as said
use Rattle.conn_script.specs.Responses.{Response, bytes_of, continue_text, is_last}
use Rattle.conn_script.specs.Messages.{refusal}
use Rattle.conn_script.specs.Script.{Script, Lacks}
use Rattle.conn_script.specs.Undo.{Undoes}
use Rattle.conn_script.specs.Begin.{Begun, BegunLacks}

-- what is written for a whole request: `100 Continue` where its client waits for that, and its response
abbrev pub answer_text : Request → Response → List ℕ
answer_text request response = continue_text (expects LIMITS request.0) ++ bytes_of response (closes request.0)

-- A request's steps, with those before it, for a driver with these nodes of its own or with none.
pub record Answers (own : Option (List ℕ)) (request : Request) (steps : List Step) (response : Response) : Type 0 where
  pub begun : List Step
  pub script_steps : List Step
  pub begins : Begun own begun
  pub script : Script request script_steps response
  pub steps_are : steps ≡ begun ++ script_steps

-- The steps of requests one after the other and what is written for them; and whether the hub was spent, which can only
-- be in the last.
pub data Scripts (own : Option (List ℕ)) : List Request → List Step → List ℕ → Bool → Type 0 where
  none : Scripts own [] [] [] false
  last_spent : (request : Request) (steps : List Step) (response : Response) → response ≡ said.hub_spent →
      Answers own request steps response → Scripts own (request ∷ []) steps (answer_text request response) true
  next : (request : Request) (requests : List Request) (steps more : List Step) (response : Response) (written : List ℕ) (spent : Bool) →
      is_last response ≡ false → Answers own request steps response → Scripts own requests more written spent →
      Scripts own (request ∷ requests) (steps ++ more) (answer_text request response ++ written) spent

-- the bytes begin with these requests, of which only the last may close, and then rest
abbrev pub BeginsWith : List ℕ → List Request → List ℕ → Type 0
BeginsWith bytes [] rest = bytes ≡ rest
BeginsWith bytes (request ∷ requests) rest =
    (behind : List ℕ) × IsWhole LIMITS bytes request.0 request.1 behind × ((closes request.0 ≡ false) ⊎ (requests ≡ [])) × BeginsWith behind requests rest

-- the bytes begin with these requests, none of which closes, and then rest
abbrev pub ReadsTo : List ℕ → List Request → List ℕ → Type 0
ReadsTo bytes [] rest = bytes ≡ rest
ReadsTo bytes (request ∷ requests) rest =
    (behind : List ℕ) × IsWhole LIMITS bytes request.0 request.1 behind × (closes request.0 ≡ false) × ReadsTo behind requests rest

-- whether the client of a request at the front waits for `100 Continue`: its head is accepted and says so
pub record Waits (rest : List ℕ) (waits : Bool) : Type 0 where
  pub accepted : (head : RequestHead) → IsAccepted LIMITS rest head → waits ≡ expects LIMITS head
  pub only : IsTrue waits → (head : RequestHead) × IsAccepted LIMITS rest head

-- how the stream ends behind the requests, whether the hub is spent, and what is written for the end itself
pub data EndsSo (bytes : List ℕ) (requests : List Request) (rest : List ℕ) : End → Bool → List ℕ → Type 0 where
  closed : Frames LIMITS bytes requests on.closed → length bytes < LIMIT → EndsSo bytes requests rest ends.Closed false []
  asked : Frames LIMITS bytes requests on.asked → EndsSo bytes requests rest ends.Asked false []
  refused : (why : FrameFault) (at : ℕ) (waits : Bool) → Frames LIMITS bytes requests (on.refused why at) → Waits rest waits →
      EndsSo bytes requests rest (ends.Refused why at) false (continue_text waits ++ bytes_of (refusal why) true)
  cut : (at : ℕ) (waits : Bool) → Frames LIMITS bytes requests (on.cut at) → length bytes < LIMIT → Waits rest waits →
      EndsSo bytes requests rest (ends.Cut at) false (continue_text waits)
  closed_at_limit : Frames LIMITS bytes requests on.closed → length bytes ≡ LIMIT → EndsSo bytes requests rest ends.Limit false []
  cut_at_limit : (at : ℕ) (waits : Bool) → Frames LIMITS bytes requests (on.cut at) → length bytes ≡ LIMIT → Waits rest waits →
      EndsSo bytes requests rest ends.Limit false (continue_text waits)
  hub_spent : EndsSo bytes requests rest ends.HubSpent true []

-- The bytes spell requests, one after the other, and end so; the steps are the scripts of these requests, each with what
-- goes before it; and what is written are their responses, in order, and what the end calls for.
pub record Talked (own : Option (List ℕ)) (served : Served) (bytes : List ℕ) (steps : List Step) (written : List ℕ) : Type 0 where
  pub requests : List Request
  pub rest : List ℕ
  pub begins : BeginsWith bytes requests rest
  pub spent : Bool
  pub responses : List ℕ
  pub scripts : Scripts own requests steps responses spent
  pub last_words : List ℕ
  pub ends : EndsSo bytes requests rest served.end spent last_words
  pub written_is : written ≡ responses ++ last_words
  pub count : served.frames ≡ length requests
  pub short_is : served.short ≡ met_want steps

-- ---- a fault cuts it short

-- what is written beside whole responses: `100 Continue`, and the response to a refused request
pub data Words (rest : List ℕ) : List ℕ → Type 0 where
  no_words : Words rest []
  interim : Waits rest true → Words rest (continue_text true)
  last : (why : FrameFault) (waits : Bool) → Waits rest waits → IsRefused LIMITS rest why →
      Words rest (continue_text waits ++ bytes_of (refusal why) true)

-- where a write failed behind the responses that were taken whole: within other words; or within a response, after the steps of
-- its request, and then what is done where a response was not taken whole
pub data Breaks (own : Option (List ℕ)) (rest : List ℕ) : List Step → List ℕ → Type 0 where
  in_words : (taken unwritten : List ℕ) → Words rest (taken ++ unwritten) → 0 < length unwritten → Breaks own rest [] taken
  in_response : (mine undone : List Step) (request : Request) (behind : List ℕ) (response : Response) (taken unwritten : List ℕ) →
      IsWhole LIMITS rest request.0 request.1 behind → Answers own request mine response → bytes_of response (closes request.0) ≡ taken ++ unwritten →
      0 < length unwritten → Undoes response undone →
      Breaks own rest (mine ++ undone) (continue_text (expects LIMITS request.0) ++ taken)

-- a write failed: what was taken is a front, and behind a request that closes nothing is written
pub record WriteBroke (own : Option (List ℕ)) (bytes : List ℕ) (steps : List Step) (written : List ℕ) : Type 0 where
  pub requests : List Request
  pub rest : List ℕ
  pub begins : ReadsTo bytes requests rest
  pub responses : List ℕ
  pub before : List Step
  pub scripts : Scripts own requests before responses false
  pub behind : List Step
  pub taken : List ℕ
  pub breaks : Breaks own rest behind taken
  pub steps_are : steps ≡ before ++ behind
  pub written_is : written ≡ responses ++ taken

-- the steps behind those of whole requests, where memory was wanted
pub data LacksBehind (own : Option (List ℕ)) (rest : List ℕ) : List Step → Type 0 where
  no_request : LacksBehind own rest []
  before_request : (steps : List Step) → BegunLacks own steps → LacksBehind own rest steps
  in_request : (request : Request) (behind : List ℕ) (begun steps : List Step) → IsWhole LIMITS rest request.0 request.1 behind → Begun own begun →
      Lacks request steps → LacksBehind own rest (begun ++ steps)

-- Memory was wanted: what was written ends with a whole response or a whole `100 Continue`. It is wanted for bytes that no answered
-- request holds, and no request that was answered closes: behind the last response, or where nothing is left to answer, it never is.
pub record MemoryBroke (own : Option (List ℕ)) (bytes : List ℕ) (steps : List Step) (written : List ℕ) : Type 0 where
  pub requests : List Request
  pub rest : List ℕ
  pub begins : ReadsTo bytes requests rest
  pub owes : 0 < length rest
  pub responses : List ℕ
  pub before : List Step
  pub scripts : Scripts own requests before responses false
  pub waits : Bool
  pub waits_so : IsTrue waits → Waits rest true
  pub written_is : written ≡ responses ++ continue_text waits
  pub behind : List Step
  pub lacks : LacksBehind own rest behind
  pub steps_are : steps ≡ before ++ behind

-- A client left while its New Session waited: the requests before that one are answered, its own steps are made, with no response,
-- and of what is written for it there is at most the `100 Continue` that it waited for.
pub record LeftOff (own : Option (List ℕ)) (bytes : List ℕ) (steps : List Step) (written : List ℕ) : Type 0 where
  pub requests : List Request
  pub rest : List ℕ
  pub begins : ReadsTo bytes requests rest
  pub responses : List ℕ
  pub before : List Step
  pub scripts : Scripts own requests before responses false
  pub f : Request
  pub behind : List ℕ
  pub whole : IsWhole LIMITS rest f.0 f.1 behind
  pub mine : List Step
  pub answers : Answers own f mine said.left
  pub steps_are : steps ≡ before ++ mine
  pub written_is : written ≡ responses ++ continue_text (expects LIMITS f.0)

-- an end of input that may still be
abbrev pub IsOpen : End → Type 0
IsOpen ends.Closed = Unit {0}
IsOpen (ends.Cut at) = Unit {0}
IsOpen e = ⊥

-- no request is refused and none asks to close: the conversation up to here is one that the end of input would end
abbrev pub IsUnended : Option (List ℕ) → List ℕ → List Step → List ℕ → Type 0
IsUnended own bytes steps written = (served : Served) × IsOpen served.end × Talked own served bytes steps written

-- A conversation that is over: whole, or cut short by a fault. After a failed read it is that of the bytes before; a client that left
-- counts as one.
abbrev pub Finished : Option (List ℕ) → Result Served ConnFault → List ℕ → List Step → List ℕ → Type 0
Finished own (Ok served) bytes steps written = Talked own served bytes steps written
Finished own (Err faults.Read) bytes steps written = IsUnended own bytes steps written ⊎ LeftOff own bytes steps written
Finished own (Err faults.Write) bytes steps written = WriteBroke own bytes steps written
Finished own (Err faults.Memory) bytes steps written = MemoryBroke own bytes steps written

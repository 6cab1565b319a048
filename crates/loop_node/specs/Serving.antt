-- What is written for the bytes of a connection to a node.
use Rattle.std.specs.Prelude.{◌≡◌, ℕ, Bool, true, IsTrue, if◌then◌else◌, List, [], ◌∷◌, ◌++◌, length, drop, Option, Some, None, codes, decimal}
use Rattle.httparse.specs.Grammar.{RequestHead}
use Rattle.http_frames.specs.declared.FrameFault.{FrameFault}
use Rattle.http_frames.specs.Faults.{fault_text}
use Rattle.http_frames.specs.declared.writing.TheConstants.{CONTINUE}
use Rattle.http_frames.specs.declared.frames.TheConstants.{LIMITS}
use Rattle.http_frames.specs.declared.replies.NodeReply.{NodeReply}
use Rattle.http_frames.specs.Chunks.{joined}
use Rattle.http_frames.specs.Frames.{Request, End, closed, asked, cut, refused, Frames, IsAccepted, IsRefused, IsWhole, expects, closes}
use Rattle.http_frames.specs.Writing.{field_line, length_line, has_no_body}
use Rattle.wd_bodies.specs.declared.code.ErrorCode.TheVariants as code
use Rattle.grid_outside.specs.declared.exchange.Ask.{Ask}
use Rattle.loop_node.specs.Sessions.{Node}
use Rattle.loop_node.specs.Replies.{Answers, failure}

-- what the node is asked without headers
abbrev pub plain_ask : List ℕ → List ℕ → List ℕ → Ask
plain_ask method target body = record {
  method = method;
  target = target;
  accept = None;
  accept_encoding = None;
  content_type = None;
  content_encoding = None;
  body = body;
}

-- a request as the node is asked
abbrev pub ask_in : Request → Ask
ask_in r = plain_ask r.0.method r.0.target (joined r.1)

-- the line of a value that is there
abbrev pub value_line : List ℕ → Option (List ℕ) → List ℕ
value_line name None = []
value_line name (Some value) = field_line name value

-- the head of a response, behind which the connection may close (RFC 9112 §4)
abbrev pub reply_head : NodeReply → Bool → List ℕ
reply_head reply close =
    codes "HTTP/1.1 " ++ decimal reply.status ++ codes " " ++ reply.reason ++ codes "\r\n"
    ++ value_line (codes "Content-Type") reply.content_type
    ++ value_line (codes "Content-Encoding") reply.content_encoding
    ++ value_line (codes "Cache-Control") reply.cache_control
    ++ (if has_no_body reply.status then [] else length_line (length reply.body))
    ++ (if close then codes "Connection: close\r\n" else [])
    ++ codes "\r\n"

-- a reply as a response
unfoldable pub reply_bytes : NodeReply → Bool → List ℕ
reply_bytes reply close = reply_head reply close ++ (if has_no_body reply.status then [] else reply.body)

-- what a client that waits for it is told first (RFC 9110 §15.2.1)
abbrev pub go_on : Bool → List ℕ
go_on waits = if waits then CONTINUE.now else []

-- what is written for a request
abbrev pub response_to : Request → NodeReply → List ℕ
response_to r reply = go_on (expects LIMITS r.0) ++ reply_bytes reply (closes r.0)

-- the node answers the requests one after the other, these bytes are the responses, and then this is the node
abbrev pub Serves : Node → List Request → List ℕ → Node → Type 0
Serves node [] written new = (written ≡ []) × (new ≡ node)
Serves node (r ∷ requests) written new =
    (reply : NodeReply) × (next : Node) × (more : List ℕ)
    × Answers node (ask_in r) reply next
    × (written ≡ response_to r reply ++ more)
    × Serves next requests more new

-- whether a client waits behind these bytes: their head is accepted, and it says so
pub record Waits (bytes : List ℕ) (waits : Bool) : Type 0 where
  pub accepted : (h : RequestHead) → IsAccepted LIMITS bytes h → waits ≡ expects LIMITS h
  pub only : IsTrue waits → (h : RequestHead) × IsAccepted LIMITS bytes h × (expects LIMITS h ≡ true)

-- the response to a request that is refused, behind which the connection closes
abbrev pub refused_reply : FrameFault → NodeReply
refused_reply why = failure code.InvalidArgument (fault_text why)

abbrev pub refusal : FrameFault → List ℕ
refusal why = reply_bytes (refused_reply why) true

-- what is written behind the last whole request
abbrev pub LastWords : List ℕ → End → List ℕ → Type 0
LastWords bytes closed words = words ≡ []
LastWords bytes asked words = words ≡ []
LastWords bytes (cut at) words = (waits : Bool) × Waits (drop at bytes) waits × (words ≡ go_on waits)
LastWords bytes (refused why at) words =
    (waits : Bool) × Waits (drop at bytes) waits × (words ≡ go_on waits ++ refusal why)

-- these bytes came, so many requests stand in them, they end so, and these bytes were written
pub record Served (node new : Node) (bytes written : List ℕ) (frames : ℕ) (end : End) : Type 0 where
  pub requests : List Request
  pub responses : List ℕ
  pub last : List ℕ
  pub reads : Frames LIMITS bytes requests end
  pub frames_is : frames ≡ length requests
  pub serves : Serves node requests responses new
  pub last_is : LastWords bytes end last
  pub written_is : written ≡ responses ++ last

-- the bytes spell these requests, one after the other, and then comes the rest
abbrev pub Spelled : List ℕ → List Request → List ℕ → Type 0
Spelled bytes [] rest = rest ≡ bytes
Spelled bytes (r ∷ requests) rest =
    (behind : List ℕ) × IsWhole LIMITS bytes r.0 r.1 behind × Spelled behind requests rest

-- a client waits behind these bytes
abbrev pub IsWaiting : List ℕ → Type 0
IsWaiting bytes = (h : RequestHead) × IsAccepted LIMITS bytes h × (expects LIMITS h ≡ true)

-- what may be written for the rest
pub data Words (rest : List ℕ) : List ℕ → Type 0 where
  going_on : (told : Bool) → (told ≡ true → IsWaiting rest) → Words rest (go_on told)
  refusing : (why : FrameFault) (waits : Bool) → Waits rest waits → IsRefused LIMITS rest why
      → Words rest (go_on waits ++ refusal why)

-- these bytes came, the node answered the requests in front, and of what is due then a front was written
pub record CutShort (node new : Node) (bytes written : List ℕ) : Type 0 where
  pub requests : List Request
  pub rest : List ℕ
  pub responses : List ℕ
  pub words : List ℕ
  pub unwritten : List ℕ
  pub spelled : Spelled bytes requests rest
  pub serves : Serves node requests responses new
  pub words_are : Words rest words
  pub written_is : written ++ unwritten ≡ responses ++ words

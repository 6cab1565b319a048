-- What the node replies to each request, and what becomes of it.
use Rattle.std.specs.Prelude.{◌≡◌, ℕ, ◌+◌, zero, suc, Bool, true, false, nat_lt, List, [], ◌∷◌, ◌++◌, length, Option, Some, None, unwrap_or, codes}
use Rattle.http.specs.StatusCode.{reason_phrase}
use Rattle.http_frames.specs.declared.replies.NodeReply.{NodeReply}
use Rattle.wd_bodies.specs.declared.code.ErrorCode.{ErrorCode}
use Rattle.wd_bodies.specs.declared.code.ErrorCode.TheVariants as code
use Rattle.wd_bodies.specs.declared.headers.TheConstants.{JSON_TYPE, NO_CACHE}
use Rattle.wd_bodies.specs.declared.messages.TheConstants.{NO_COMMAND, NO_METHOD, NO_SESSION}
use Rattle.wd_bodies.specs.Codes.{code_status}
use Rattle.wd_bodies.specs.Bodies.{value_bytes, error_bytes, created_bytes}
use Rattle.grid_types.specs.Capabilities.{json_string}
use Rattle.caps_merge.specs.Placed.{Member}
use Rattle.grid_outside.specs.declared.exchange.Ask.{Ask}
use Rattle.loop_node.specs.Paths.{Asked, asked_of, new_session as start_session, delete_session, set_url, get_url, get_status, unknown_command, unknown_method}
use Rattle.loop_node.specs.Sessions.{Node, new_session, session_id, node_caps, url_at, without, moved}
use Rattle.loop_node.specs.Reading.{ReadsObject, url_asked}

-- a reply with a JSON body
abbrev pub json_reply : ℕ → List ℕ → NodeReply
json_reply status body = record {
  status = status;
  reason = unwrap_or (reason_phrase status) [];
  content_type = Some JSON_TYPE.now;
  content_encoding = None;
  cache_control = Some NO_CACHE.now;
  body = body;
}

abbrev pub success : List ℕ → NodeReply
success body = json_reply 200 body

abbrev pub failure : ErrorCode → List ℕ → NodeReply
failure error message = json_reply (code_status error) (error_bytes error message)

abbrev pub null_body : List ℕ
null_body = value_bytes (codes "null")

abbrev pub no_session : NodeReply
no_session = failure code.InvalidSessionId NO_SESSION.now

-- a reply, and the node after it
abbrev pub Answered : Type 0
Answered = NodeReply × Node

abbrev pub created_reply : Node → List ℕ → NodeReply
created_reply node id = success (created_bytes id (node_caps node.browser node.version))

-- a new session
abbrev pub started : Node → Answered
started node = (
  created_reply node (session_id node.number (node.created + 1)),
  record node {
    created = node.created + 1;
    sessions = node.sessions ++ new_session (session_id node.number (node.created + 1)) ∷ [];
  },
)

abbrev pub started_if : Bool → Node → Answered
started_if true node = started node
started_if false node = (failure code.SessionNotCreated (codes "no free slot"), node)

abbrev pub has_room : Node → Bool
has_room node = nat_lt (length node.sessions) node.slots

-- a start: a refusal while some are left, and else a session where there is room
abbrev pub start_by : ℕ → Node → Answered
start_by zero node = started_if (has_room node) node
start_by (suc left) node =
    (failure code.SessionNotCreated (codes "refused by script"), record node { refuses = left })

-- by what the body says
abbrev pub start_answer : Node → Option (List Member) → Answered
start_answer node None = (failure code.InvalidArgument (codes "body is not an object"), node)
start_answer node (Some members) = start_by node.refuses node

abbrev pub delete_answer : Node → List ℕ → Option (List ℕ) → Answered
delete_answer node id None = (no_session, node)
delete_answer node id (Some url) = (success null_body, record node { sessions = without id node.sessions })

abbrev pub url_answer : Node → Option (List ℕ) → Answered
url_answer node None = (no_session, node)
url_answer node (Some url) = (success (value_bytes (json_string url)), node)

-- by the url that the body asks for
abbrev pub move_answer : Node → List ℕ → Option (List ℕ) → Answered
move_answer node id None = (failure code.InvalidArgument (codes "url is not a string"), node)
move_answer node id (Some url) =
    (success null_body, record node { sessions = moved id url node.sessions })

abbrev pub status_json : Bool → List ℕ
status_json true = codes "{\"ready\":true,\"message\":\"loop node\"}"
status_json false = codes "{\"ready\":false,\"message\":\"loop node\"}"

abbrev pub status_answer : Node → Answered
status_answer node = (success (value_bytes (status_json (has_room node))), node)

abbrev pub command_answer : Node → Answered
command_answer node = (failure code.UnknownCommand NO_COMMAND.now, node)

abbrev pub method_answer : Node → Answered
method_answer node = (failure code.UnknownMethod NO_METHOD.now, node)

abbrev pub IsMoved : Node → List ℕ → List ℕ → Answered → Type 0
IsMoved node id body answer =
    (o : Option (List Member)) × ReadsObject body o × (answer ≡ move_answer node id (url_asked o))

-- the body is read only where the session is there
abbrev pub Moves : Node → List ℕ → List ℕ → Option (List ℕ) → Answered → Type 0
Moves node id body None answer = answer ≡ (no_session, node)
Moves node id body (Some url) answer = IsMoved node id body answer

abbrev pub AnswersTo : Asked → Node → List ℕ → Answered → Type 0
AnswersTo start_session node body answer =
    (o : Option (List Member)) × ReadsObject body o × (answer ≡ start_answer node o)
AnswersTo (delete_session id) node body answer = answer ≡ delete_answer node id (url_at id node.sessions)
AnswersTo (set_url id) node body answer = Moves node id body (url_at id node.sessions) answer
AnswersTo (get_url id) node body answer = answer ≡ url_answer node (url_at id node.sessions)
AnswersTo get_status node body answer = answer ≡ status_answer node
AnswersTo unknown_command node body answer = answer ≡ command_answer node
AnswersTo unknown_method node body answer = answer ≡ method_answer node

-- what is asked in this way is answered with this reply, and then this is the node
abbrev pub Answers : Node → Ask → NodeReply → Node → Type 0
Answers node ask reply new = AnswersTo (asked_of ask.method ask.target) node ask.body (reply, new)

-- The responses, byte for byte.
use Rattle.std.specs.Prelude.{ℕ, Bool, true, false, if◌then◌else◌, List, [], ◌++◌, length, codes, decimal, unwrap_or, Option, None, Some}
use Rattle.http.specs.StatusCode.{reason_phrase}
use Rattle.http_frames.specs.declared.replies.NodeReply.{NodeReply}
use Rattle.http_frames.specs.declared.writing.TheConstants.{CONTINUE}
use Rattle.http_frames.specs.Writing.{field_line, length_line, has_no_body}
use Rattle.grid_types.specs.declared.capabilities.Cap.{Cap}
use Rattle.wd_bodies.specs.declared.code.ErrorCode.{ErrorCode}
use Rattle.wd_bodies.specs.declared.code.ErrorCode.TheVariants as code
use Rattle.wd_bodies.specs.declared.headers.TheConstants.{JSON_TYPE, NO_CACHE}
use Rattle.wd_bodies.specs.declared.messages.TheConstants.{HUB_SPENT}
use Rattle.wd_bodies.specs.Codes.{code_status}
use Rattle.wd_bodies.specs.Bodies.{created_bytes, error_bytes, value_bytes}

-- what a request is answered with: a session that was created, under the number of its binding; another body of the hub;
-- what a node replied; that the hub is spent, after which the connection ends; or nothing, since the client has left
pub data Response : Type 0 where
  created : (session : List ℕ) (caps : List Cap) (binding : ℕ) → Response
  own : (status : ℕ) (body : List ℕ) → Response
  passed_on : NodeReply → Response
  hub_spent : Response
  left : Response

-- a success whose value is this JSON
abbrev pub success : List ℕ → Response
success json = own 200 (value_bytes json)

abbrev pub failure : ErrorCode → List ℕ → Response
failure code message = own (code_status code) (error_bytes code message)

-- the connection ends with it, whatever the request asks for
abbrev pub is_last : Response → Bool
is_last hub_spent = true
is_last left = true
is_last response = false

-- a header line, where there is a value
abbrev pub told_line : List ℕ → Option (List ℕ) → List ℕ
told_line name None = []
told_line name (Some value) = field_line name value

-- the head of a response with a body of so many bytes
abbrev pub head_text : ℕ → List ℕ → Option (List ℕ) → Option (List ℕ) → Option (List ℕ) → ℕ → Bool → List ℕ
head_text status reason content_type content_encoding cache_control size close =
    codes "HTTP/1.1 " ++ decimal status ++ codes " " ++ reason ++ codes "\r\n"
    ++ told_line (codes "Content-Type") content_type
    ++ told_line (codes "Content-Encoding") content_encoding
    ++ told_line (codes "Cache-Control") cache_control
    ++ (if has_no_body status then [] else length_line size)
    ++ (if close then codes "Connection: close\r\n" else [])
    ++ codes "\r\n"

-- a response (RFC 9112 §4): its reason and three of its headers as given, no body where its status has none, and the
-- line `Connection` where the connection ends after it
unfoldable pub response_text : ℕ → List ℕ → Option (List ℕ) → Option (List ℕ) → Option (List ℕ) → List ℕ → Bool → List ℕ
response_text status reason content_type content_encoding cache_control body close =
    head_text status reason content_type content_encoding cache_control (length body) close
    ++ (if has_no_body status then [] else body)

-- one with a JSON body of the hub
abbrev pub json_text : ℕ → List ℕ → Bool → List ℕ
json_text status body close =
    response_text status (unwrap_or (reason_phrase status) []) (Some JSON_TYPE.now) None (Some NO_CACHE.now) body close

-- what a node replied, passed on
abbrev pub passed_text : NodeReply → Bool → List ℕ
passed_text r close = response_text r.status r.reason r.content_type r.content_encoding r.cache_control r.body close

abbrev pub spent_text : List ℕ
spent_text = json_text (code_status code.UnknownError) (error_bytes code.UnknownError HUB_SPENT.now) true

-- the bytes of a response; whether the connection ends after its request
abbrev pub bytes_of : Response → Bool → List ℕ
bytes_of (created session caps binding) close = json_text 200 (created_bytes session caps) close
bytes_of (own status body) close = json_text status body close
bytes_of (passed_on r) close = passed_text r close
bytes_of hub_spent close = spent_text
bytes_of left close = []

-- the interim response to a client that waits with its body (RFC 9110 §15.2.1)
abbrev pub continue_text : Bool → List ℕ
continue_text false = []
continue_text true = CONTINUE.now

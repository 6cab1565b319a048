-- The errors by their causes, in words.
use Rattle.std.specs.Prelude.{ℕ, zero, suc, List, [], ◌++◌, codes, decimal, Option, None, Some}
use Rattle.json_spans.specs.declared.fault.JsonFault.{JsonFault}
use Rattle.json_spans.specs.declared.fault.JsonFault.TheVariants as json
use Rattle.caps_merge.specs.declared.fault.CapsFault.{CapsFault}
use Rattle.caps_merge.specs.declared.fault.CapsFault.TheVariants as caps
use Rattle.caps_merge.specs.declared.registering.fault.RegFault.{RegFault}
use Rattle.caps_merge.specs.declared.registering.fault.RegFault.TheVariants as reg
use Rattle.caps_merge.specs.declared.registering.fault.RegField.{RegField}
use Rattle.caps_merge.specs.declared.registering.fault.RegField.TheVariants as field
use Rattle.http_frames.specs.declared.FrameFault.{FrameFault}
use Rattle.http_frames.specs.Faults.{fault_text}
use Rattle.grid_types.specs.declared.entry.FailWhy.{FailWhy}
use Rattle.grid_types.specs.declared.entry.FailWhy.TheVariants as why
use Rattle.grid_types.specs.declared.entry.Outcome.{Outcome}
use Rattle.grid_types.specs.declared.entry.Outcome.TheVariants as outcome
use Rattle.grid_types.specs.Calls.{Reply}
use Rattle.wd_bodies.specs.declared.code.ErrorCode.TheVariants as code
use Rattle.wd_bodies.specs.declared.messages.TheConstants.{NO_COMMAND, NO_METHOD, NO_NODE, NO_SESSION, NO_SLOT_MATCHES, NODE_NOT_HTTP, NODE_UNREACHABLE, NUMBERS_SPENT}
use Rattle.hub_status.specs.Status.{status_bytes}
use Rattle.hub_status.specs.Queue.{queue_bytes}
use Rattle.conn_script.specs.Responses.{Response, created, own, success, failure}

-- ---- no call is made

abbrev pub unknown_command : Response
unknown_command = failure code.UnknownCommand NO_COMMAND.now

abbrev pub unknown_method : Response
unknown_method = failure code.UnknownMethod NO_METHOD.now

abbrev pub no_such_session : Response
no_such_session = failure code.InvalidSessionId NO_SESSION.now

abbrev pub no_such_node : Response
no_such_node = failure code.InvalidArgument NO_NODE.now

-- why a request was refused
abbrev pub refusal : FrameFault → Response
refusal fault = failure code.InvalidArgument (fault_text fault)

-- a place in a body, counted in bytes from 0; out of memory is answered by no response
abbrev pub json_fault_text : JsonFault → List ℕ
json_fault_text json.NotUtf8 = codes "body is not UTF-8"
json_fault_text (json.Syntax at) = codes "body is not JSON at byte " ++ decimal at
json_fault_text (json.Deep at) = codes "body is nested too deep at byte " ++ decimal at
json_fault_text (json.Repeated first again) = codes "body has a name twice at byte " ++ decimal again
json_fault_text (json.Many at) = codes "body has too many members at byte " ++ decimal at
json_fault_text json.Memory = []

-- a list of a New Session's body: 0 is `alwaysMatch`, and k + 1 is entry k of `firstMatch`
abbrev pub list_name : ℕ → List ℕ
list_name zero = codes "alwaysMatch"
list_name (suc k) = codes "firstMatch " ++ decimal k

abbrev pub caps_fault_text : CapsFault → List ℕ
caps_fault_text (caps.NotJson f) = json_fault_text f
caps_fault_text caps.NoCapabilities = codes "capabilities is not an object"
caps_fault_text caps.BadFirstMatch = codes "firstMatch is not a list with an entry"
caps_fault_text (caps.BadMember list name) = list_name list ++ (codes ": " ++ (name ++ codes " is refused"))
caps_fault_text (caps.Clash entry name) = codes "firstMatch " ++ (decimal entry ++ (codes ": " ++ (name ++ codes " stands in alwaysMatch too")))
caps_fault_text (caps.TooMany count) = codes "firstMatch has " ++ (decimal count ++ codes " entries")
caps_fault_text (caps.TooLarge bytes) = codes "capabilities take " ++ (decimal bytes ++ codes " bytes")
caps_fault_text (caps.BadList list) = list_name list ++ codes " is not an object"
caps_fault_text caps.Memory = []

abbrev pub caps_refusal : CapsFault → Response
caps_refusal fault = failure code.InvalidArgument (caps_fault_text fault)

abbrev pub field_word : RegField → List ℕ
field_word field.Body = codes "body"
field_word field.Name = codes "name"
field_word field.Address = codes "address"
field_word field.MaxSessions = codes "maxSessions"
field_word field.DrainAfter = codes "drainAfter"
field_word field.Slots = codes "slots"
field_word field.Count = codes "count"
field_word field.Stereotype = codes "stereotype"

-- of a body of this kind, a registration or a beat
abbrev pub reg_fault_text : List ℕ → RegFault → List ℕ
reg_fault_text kind (reg.NotJson f) = json_fault_text f
reg_fault_text kind (reg.BadField f) = kind ++ (codes ": " ++ (field_word f ++ codes " is refused"))
reg_fault_text kind (reg.TooLarge bytes) = kind ++ (codes " takes " ++ (decimal bytes ++ codes " bytes"))
reg_fault_text kind reg.Memory = []

abbrev pub reg_refusal : RegFault → Response
reg_refusal fault = failure code.InvalidArgument (reg_fault_text (codes "registration") fault)

abbrev pub beat_refusal : RegFault → Response
beat_refusal fault = failure code.InvalidArgument (reg_fault_text (codes "beat") fault)

-- ---- a reply of the hub that ends its script

abbrev pub numbers_are_spent : Response
numbers_are_spent = failure code.UnknownError NUMBERS_SPENT.now

-- to a new request that the hub did not queue
abbrev pub enqueue_refusal : Reply → Option Response
enqueue_refusal Reply.numbers_spent = Some numbers_are_spent
enqueue_refusal Reply.unsupported = Some (failure code.SessionNotCreated NO_SLOT_MATCHES.now)
enqueue_refusal (Reply.queue_full count bytes) =
    Some (failure code.SessionNotCreated (codes "queue is full: " ++ (decimal count ++ (codes " requests, " ++ (decimal bytes ++ codes " bytes")))))
enqueue_refusal reply = None

abbrev pub register_response : Reply → Option Response
register_response (Reply.registered n) = Some (success (codes "{\"node\":" ++ (decimal n ++ codes "}")))
register_response (Reply.name_taken n) = Some (failure code.InvalidArgument (codes "name is taken by node " ++ decimal n))
register_response (Reply.nodes_full listed) = Some (failure code.UnknownError (decimal listed ++ codes " nodes are listed"))
register_response Reply.numbers_spent = Some numbers_are_spent
register_response reply = None

-- to a removal, a drain and a beat
abbrev pub node_response : Reply → Option Response
node_response Reply.beaten = Some (success (codes "null"))
node_response Reply.draining = Some (success (codes "null"))
node_response Reply.removed = Some (success (codes "null"))
node_response Reply.no_node = Some no_such_node
node_response reply = None

abbrev pub clear_response : Reply → Option Response
clear_response (Reply.cleared count) = Some (success (decimal count))
clear_response reply = None

abbrev pub status_response : Reply → Option Response
status_response (Reply.viewed v) = Some (own 200 (status_bytes v))
status_response reply = None

abbrev pub queue_response : Reply → Option Response
queue_response (Reply.viewed v) = Some (own 200 (queue_bytes v))
queue_response reply = None

-- why a start failed
abbrev pub why_text : FailWhy → List ℕ
why_text (why.NodeRefused words) = words
why_text why.Unreachable = NODE_UNREACHABLE.now
why_text why.NotHttp = NODE_NOT_HTTP.now
why_text why.BadReply = codes "node's reply names no session"
why_text why.Mismatch = codes "node's capabilities do not match"
why_text why.NodeGone = codes "node is gone"
why_text why.Duplicate = codes "node's session id is in use"
why_text why.Late = []
why_text why.NoMemory = codes "hub had no memory"

-- of a request's outcome
abbrev pub outcome_response : ℕ → Outcome → Response
outcome_response request (outcome.Created session caps slot address binding) = created session caps binding
outcome_response request (outcome.TimedOut deadline) = failure code.SessionNotCreated (codes "request " ++ (decimal request ++ codes " timed out"))
outcome_response request (outcome.StartFailed why) = failure code.SessionNotCreated (codes "start failed: " ++ why_text why)
outcome_response request outcome.Cleared = failure code.SessionNotCreated (codes "request " ++ (decimal request ++ codes " was cleared"))

-- ---- an exchange with a node

abbrev pub node_unreachable : Response
node_unreachable = failure code.UnknownError NODE_UNREACHABLE.now

abbrev pub node_not_http : Response
node_not_http = failure code.UnknownError NODE_NOT_HTTP.now

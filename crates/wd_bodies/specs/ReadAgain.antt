-- The values of bodies, as the JSON trees of the reader, and the laws that what is written is read again.
use Rattle.std.specs.Prelude.{◌≡◌, ◌≤◌, ℕ, true, List, [], ◌∷◌, Option, Some, option_map, option_and_then, codes}
use Rattle.json.specs.Json.{Json, boolean, string, object, Members, no_members, member, document}
use Rattle.json.specs.Tree.{depth, members_depth}
use Rattle.grid_types.specs.Capabilities.{written_caps}
use Rattle.grid_types.specs.Names.{is_session_name}
use Rattle.grid_types.specs.declared.capabilities.Cap.{Cap}
use Rattle.grid_types.specs.declared.capabilities.CapValue.{CapValue}
use Rattle.grid_types.specs.declared.capabilities.CapValue.TheVariants as value
use Rattle.wd_bodies.specs.declared.code.ErrorCode.{ErrorCode}
use Rattle.wd_bodies.specs.Codes.{code_text}
use Rattle.wd_bodies.specs.Bodies.{value_bytes, error_bytes, created_bytes, for_nodes, start_bytes}

-- ---- values

-- an object with the one member `value`
abbrev pub value_json : Json → Json
value_json j = object (member (codes "value") j no_members)

-- the value of an error's body
abbrev pub error_json : ErrorCode → List ℕ → Json
error_json code message =
    value_json (object
    (member (codes "error") (string (code_text code)) (member (codes "message") (string message) (member (codes "stacktrace") (string []) no_members))))

-- the JSON that a capability's value is; a raw text is the JSON that is read from it
abbrev pub cap_json : CapValue → Option Json
cap_json (value.Text t) = Some (string t)
cap_json (value.Flag b) = Some (boolean b)
cap_json (value.Raw t) = document t

-- the members that capabilities are, in their order, where each raw text is JSON
abbrev pub caps_members : List Cap → Option Members
caps_members [] = Some no_members
caps_members (c ∷ cs) = option_and_then (λ j. option_map (member c.name j) (caps_members cs)) (cap_json c.value)

-- the value of the body for a session that was created
abbrev pub created_json : List ℕ → Members → Json
created_json session caps = value_json (object (member (codes "sessionId") (string session) (member (codes "capabilities") (object caps) no_members)))

-- the value of the request that starts a session
abbrev pub start_json : Members → Json
start_json wanted = object (member (codes "capabilities") (object (member (codes "alwaysMatch") (object wanted) no_members)) no_members)

-- ---- laws; `document` reads 128 levels

-- a body around a text that is JSON, however it is spaced and escaped
abbrev pub ValuesAreReadAgain : Type 0
ValuesAreReadAgain = (text : List ℕ) (j : Json) → document text ≡ Some j → depth j ≤ 127 → document (value_bytes text) ≡ Some (value_json j)

-- an error's body, whatever bytes the message has
abbrev pub ErrorsAreReadAgain : Type 0
ErrorsAreReadAgain = (code : ErrorCode) (message : List ℕ) → document (error_bytes code message) ≡ Some (error_json code message)

-- capabilities as they are written
abbrev pub CapabilitiesAreReadAgain : Type 0
CapabilitiesAreReadAgain = (caps : List Cap) (ms : Members) → caps_members caps ≡ Some ms → members_depth ms ≤ 127 → document (written_caps caps) ≡ Some (object ms)

-- the body for a session with this id
abbrev pub CreatedAreReadAgain : Type 0
CreatedAreReadAgain =
    (session : List ℕ) (caps : List Cap) (ms : Members) → is_session_name session ≡ true → caps_members caps ≡ Some ms → members_depth ms ≤ 125
    → document (created_bytes session caps) ≡ Some (created_json session ms)

-- the body of a request for a session
abbrev pub StartsAreReadAgain : Type 0
StartsAreReadAgain =
    (wanted : List Cap) (ms : Members) → caps_members (for_nodes wanted) ≡ Some ms → members_depth ms ≤ 125
    → document (start_bytes wanted) ≡ Some (start_json ms)

-- What the reply of a node to a request for a session says (WebDriver §8.1), by the value of its
-- body.
use Rattle.std.specs.Prelude.{ℕ, Bool, true, false, ◌==◌, List, [], length, map, Option, None, Some, codes, IsUtf8}
use Rattle.grid_types.specs.declared.capabilities.Cap.{Cap}
use Rattle.grid_types.specs.Names.{is_session_name}
use Rattle.json_spans.specs.Grammar.{Tree}
use Rattle.json_spans.specs.Parts.{IsText}
use Rattle.json_spans.specs.Cut.{Refuses}
use Rattle.json_spans.specs.declared.fault.JsonFault.{JsonFault}
use Rattle.caps_merge.specs.Placed.{Placed, placed, Member, object_members}
use Rattle.caps_merge.specs.Reading.{members_fault, text_where, value_named}
use Rattle.caps_merge.specs.Merging.{cap_of}

-- a session that was started, with its capabilities; a message; or neither
pub data Said : Type 0 where
  created : (session : List ℕ) (caps : List Cap) → Said
  refused : (message : List ℕ) → Said
  unclear : Said

abbrev pub unless_fault : Option JsonFault → List Member → List Member
unless_fault None ms = ms
unless_fault (Some f) ms = []

abbrev pub members_or_none : Option (List Member) → ℕ → List Member
members_or_none None place = []
members_or_none (Some ms) place = unless_fault (members_fault place ms) ms

-- The members of a value; none where it is no object. One with over 1,024 members or with a name
-- twice counts as none.
abbrev pub members_of : Placed → List Member
members_of v = members_or_none (object_members v.place v.tree) v.place

abbrev pub members_where : Option Placed → List Member
members_where None = []
members_where (Some v) = members_of v

abbrev pub if_session_name : Bool → List ℕ → Option (List ℕ)
if_session_name true name = Some name
if_session_name false name = None

-- a string that a session can be named by
abbrev pub session_in : Option (List ℕ) → Option (List ℕ)
session_in None = None
session_in (Some name) = if_session_name (is_session_name name) name

-- each member as a capability, null ones too
abbrev pub caps_of : List Member → List Cap
caps_of ms = map cap_of ms

abbrev pub message_said : Option (List ℕ) → Said
message_said None = unclear
message_said (Some message) = refused message

-- by the members of `value`, and whether they may name a session
abbrev pub named_or : Option (List ℕ) → List Member → Said
named_or None ms = message_said (text_where (value_named (codes "message") ms))
named_or (Some session) ms =
    created session (caps_of (members_where (value_named (codes "capabilities") ms)))

abbrev pub if_ok : Bool → Option (List ℕ) → Option (List ℕ)
if_ok true session = session
if_ok false session = None

-- what the members of `value` say in a reply of this status
unfoldable pub said_by : ℕ → List Member → Said
said_by status ms =
    named_or (if_ok (status == 200) (session_in (text_where (value_named (codes "sessionId") ms)))) ms

-- what the value of a whole body says
abbrev pub said_in : ℕ → Placed → Said
said_in status v = said_by status (members_where (value_named (codes "value") (members_of v)))

-- what a reply of this status with this body says
pub data Says (status : ℕ) (body : List ℕ) : Said → Type 0 where
  not_json : (f : JsonFault) → Refuses body f → Says status body unclear
  json : (before : List ℕ) (v : Tree) (after : List ℕ) → IsUtf8 body → IsText body before v after →
      Says status body (said_in status (placed (length before) v))

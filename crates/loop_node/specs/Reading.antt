-- What the body of a request says to the node.
use Rattle.std.specs.Prelude.{ℕ, List, length, Option, Some, None, if◌then◌else◌, nat_le, codes, IsUtf8}
use Rattle.grid_types.specs.Capabilities.{json_string}
use Rattle.json_spans.specs.Grammar.{Tree}
use Rattle.json_spans.specs.Inside.{Pair}
use Rattle.json_spans.specs.Parts.{IsText}
use Rattle.json_spans.specs.Cut.{Refuses}
use Rattle.json_spans.specs.declared.fault.JsonFault.{JsonFault}
use Rattle.loop_node.specs.declared.reading.TheConstants.{MAX_URL_JSON}
use Rattle.caps_merge.specs.Placed.{Placed, placed, Member, object_members}
use Rattle.caps_merge.specs.Reading.{members_fault, text_where, value_named}
use Rattle.caps_merge.specs.Shown.{ShowMembers}

abbrev pub unless_fault : Option JsonFault → List Member → Option (List Member)
unless_fault None members = Some members
unless_fault (Some fault) members = None

abbrev pub faultless : ℕ → Option (List Member) → Option (List Member)
faultless place None = None
faultless place (Some members) = unless_fault (members_fault place members) members

-- the members of a value that is an object; one with over 1,024 members or with a name twice counts as none
abbrev pub object_of : Placed → Option (List Member)
object_of v = faultless v.place (object_members v.place v.tree)

-- a body is an object with these members, or none
pub data ReadsObject (body : List ℕ) : Option (List Member) → Type 0 where
  not_json : (fault : JsonFault) → Refuses body fault → ReadsObject body None
  json : (before : List ℕ) (v : Tree) (after : List ℕ) → IsUtf8 body → IsText body before v after
      → ReadsObject body (object_of (placed (length before) v))

-- the slices are these members, or there are none
abbrev pub ShowsObject : Option (List Pair) → Option (List Member) → Type 0
ShowsObject None None = Unit {0}
ShowsObject None (Some members) = ⊥
ShowsObject (Some pairs) None = ⊥
ShowsObject (Some pairs) (Some members) = ShowMembers pairs members

-- a url whose JSON is short enough for a reply
abbrev pub fitting : Option (List ℕ) → Option (List ℕ)
fitting None = None
fitting (Some url) = if nat_le (length (json_string url)) MAX_URL_JSON then Some url else None

-- the url that a body asks for
abbrev pub url_asked : Option (List Member) → Option (List ℕ)
url_asked None = None
url_asked (Some members) = fitting (text_where (value_named (codes "url") members))

-- What the bytes of a beat's body say: the name of the node that beats, or nothing.
use Rattle.std.specs.Prelude.{◌≡◌, ◌≢◌, ℕ, ◌<◌, ◌≤◌, List, length, Option, None, Some, Result, Ok, Err, codes, IsUtf8}
use Rattle.json_spans.specs.Grammar.{Tree}
use Rattle.json_spans.specs.Parts.{IsText}
use Rattle.json_spans.specs.Cut.{Refuses}
use Rattle.json_spans.specs.declared.fault.JsonFault.{JsonFault}
use Rattle.caps_merge.specs.declared.registering.TheConstants.{MAX_BODY}
use Rattle.caps_merge.specs.declared.registering.fault.RegField.TheVariants as field
use Rattle.caps_merge.specs.declared.registering.fault.RegFault.{RegFault}
use Rattle.caps_merge.specs.declared.registering.fault.RegFault.TheVariants as fault
use Rattle.caps_merge.specs.Placed.{Placed, placed, Member}
use Rattle.caps_merge.specs.Reading.{value_named, and_then}
use Rattle.caps_merge.specs.Registering.{is_node_name, read_fields, string_where}

-- the name among the members of the body: as in a registration, and it has to be there
abbrev pub name_by : List Member → Result (Option (List ℕ)) RegFault
name_by members =
    and_then (string_where is_node_name field.Name (value_named (codes "name") members))
    (λ name. Ok (Some name))

-- by the value of the whole body
abbrev pub name_of : Placed → Result (Option (List ℕ)) RegFault
name_of value = and_then (read_fields value field.Body) name_by

-- what the bytes of a body give: no name where there are none, else the name, or the first fault
pub data BeatGives (body : List ℕ) : Result (Option (List ℕ)) RegFault → Type 0 where
  no_bytes : length body ≡ 0 → BeatGives body (Ok None)
  too_large : MAX_BODY < length body → BeatGives body (Err (fault.TooLarge (length body)))
  not_json : (wrong : JsonFault) → length body ≢ 0 → length body ≤ MAX_BODY → Refuses body wrong →
      BeatGives body (Err (fault.NotJson wrong))
  json : (before : List ℕ) (value : Tree) (after : List ℕ) → length body ≢ 0 → length body ≤ MAX_BODY →
      IsUtf8 body → IsText body before value after →
      BeatGives body (name_of (placed (length before) value))

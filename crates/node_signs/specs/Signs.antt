-- What a node tells the hub, and what the hub answers.
use Rattle.std.specs.Prelude.{◌≡◌, ℕ, suc, zero, ◌<◌, ◌^◌, Bool, true, false, cond, nat_eq, List, [], ◌∷◌, ◌++◌, map, Option, None, Some, Result, Ok, Err, IsErr, codes, decimal}
use Rattle.std.specs.List.{join_with_byte}
use Rattle.grid_types.specs.declared.capabilities.SlotGroup.{SlotGroup}
use Rattle.grid_types.specs.declared.capabilities.Registration.{Registration}
use Rattle.grid_types.specs.declared.text.NoMemory.{NoMemory}
use Rattle.grid_types.specs.Capabilities.{json_string, written_caps}
use Rattle.wd_bodies.specs.declared.headers.TheConstants.{JSON_TYPE}
use Rattle.wd_bodies.specs.declared.paths.TheConstants.{BEFORE_NODE, NODES}
use Rattle.grid_outside.specs.declared.exchange.Ask.{Ask}
use Rattle.grid_outside.specs.declared.exchange.Reply.TheVariants as reply
use Rattle.grid_outside.specs.declared.exchange.ExchangeFault.TheVariants as fault
use Rattle.grid_outside.specs.Exchanges.{Came}
use Rattle.node_signs.specs.declared.contact.Contact.{Contact}
use Rattle.node_signs.specs.declared.contact.Contact.TheVariants as contact
use Rattle.node_signs.specs.declared.signs.Beat.{Beat}
use Rattle.node_signs.specs.declared.signs.Beat.TheVariants as beat
use Rattle.node_signs.specs.declared.signs.TheConstants.{SERVED}

-- a comma, where something stands before
abbrev pub comma : ℕ → List ℕ
comma zero = []
comma (suc n) = 44 ∷ []

-- slots of one stereotype
unfoldable pub written_group : SlotGroup → List ℕ
written_group g = codes "{\"count\":" ++ decimal g.count ++ codes ",\"stereotype\":" ++ written_caps g.stereotype ++ codes "}"

-- the count of sessions after which the node drains, where it has one
abbrev pub written_drain : Option ℕ → List ℕ
written_drain None = []
written_drain (Some count) = codes ",\"drainAfter\":" ++ decimal count

-- the name, the address and how many sessions run at once
unfoldable pub written_names : Registration → List ℕ
written_names r =
    json_string r.name ++ codes ",\"address\":" ++ json_string r.address ++ codes ",\"maxSessions\":" ++ decimal r.max_sessions

-- the body by which a node registers
unfoldable pub registration_bytes : Registration → List ℕ
registration_bytes r =
    codes "{\"name\":" ++ written_names r ++ written_drain r.drain_after
    ++ codes ",\"slots\":[" ++ join_with_byte 44 (map written_group r.groups) ++ codes "]}"

-- the body of the answer that gives a node its number
unfoldable pub registered_bytes : ℕ → List ℕ
registered_bytes n = codes "{\"value\":{\"node\":" ++ (decimal n ++ codes "}}")

-- the body of the beats of a node of this name
unfoldable pub beat_bytes : List ℕ → List ℕ
beat_bytes name = codes "{\"name\":" ++ json_string name ++ codes "}"

-- a request with a JSON body
abbrev pub ask_to_post : List ℕ → List ℕ → Ask
ask_to_post target body = record {
  method = codes "POST";
  target = target;
  accept = None;
  accept_encoding = None;
  content_type = Some JSON_TYPE.now;
  content_encoding = None;
  body = body;
}

-- the request to register
abbrev pub ask_to_register : List ℕ → Ask
ask_to_register body = ask_to_post NODES.now body

-- the request that is a beat of the node of this number
abbrev pub ask_to_beat : ℕ → List ℕ → Ask
ask_to_beat n body = ask_to_post (BEFORE_NODE.now ++ decimal n ++ codes "/beat") body

-- the number that a served answer gives
abbrev pub Numbers : Bool → List ℕ → Option ℕ → Type 0
Numbers false body o = o ≡ None
Numbers true body (Some n) = body ≡ registered_bytes n
Numbers true body None = (n : ℕ) → n < 2 ^ 32 → ¬ (body ≡ registered_bytes n)

-- what the exchange makes of a registration
abbrev pub RegisterIs : Came → Result (Option ℕ) NoMemory → Type 0
RegisterIs (Ok (reply.Http r)) (Ok o) = Numbers (nat_eq r.status SERVED) r.body o
RegisterIs (Ok (reply.Http r)) (Err e) = ⊥
RegisterIs (Ok (reply.NotHttp bytes)) result = result ≡ Ok None
RegisterIs (Err fault.Unreachable) result = result ≡ Ok None
RegisterIs (Err fault.Memory) result = IsErr result

-- what the exchange makes of a beat
abbrev pub BeatIs : Came → Result Beat NoMemory → Type 0
BeatIs (Ok (reply.Http r)) result = result ≡ Ok (cond (nat_eq r.status SERVED) beat.Taken beat.Refused)
BeatIs (Ok (reply.NotHttp bytes)) result = result ≡ Ok beat.Unanswered
BeatIs (Err fault.Unreachable) result = result ≡ Ok beat.Unanswered
BeatIs (Err fault.Memory) result = IsErr result

-- what came of an exchange, where it was made
abbrev pub contact_of : Came → Option Contact
contact_of (Ok (reply.Http r)) = Some (contact.Answered r.status)
contact_of (Ok (reply.NotHttp bytes)) = Some contact.NotHttp
contact_of (Err fault.Unreachable) = Some contact.Unreachable
contact_of (Err fault.Memory) = None

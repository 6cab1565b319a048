-- The hub's status as JSON.
use Rattle.std.specs.Prelude.{ℕ, ◌+◌, Bool, true, false, List, [], ◌∷◌, ◌++◌, length, take, drop, map, codes, decimal}
use Rattle.std.specs.List.{join_with_byte}
use Rattle.grid_types.specs.declared.capabilities.SlotGroup.{SlotGroup}
use Rattle.grid_types.specs.declared.view.Standing.{Standing}
use Rattle.grid_types.specs.declared.view.Standing.TheVariants as standing
use Rattle.grid_types.specs.declared.view.SlotState.{SlotState}
use Rattle.grid_types.specs.declared.view.SlotState.TheVariants as slot
use Rattle.grid_types.specs.declared.view.NodeView.{NodeView}
use Rattle.grid_types.specs.declared.view.View.{View}
use Rattle.grid_types.specs.Capabilities.{json_string, written_caps}
use Rattle.wd_bodies.specs.Bodies.{value_bytes}

-- how a node stands
abbrev pub availability : Standing → List ℕ
availability standing.Up = codes "UP"
availability standing.Suspect = codes "SUSPECT"
availability standing.Draining = codes "DRAINING"
availability standing.Down = codes "DOWN"
availability standing.Gone = codes "GONE"

-- what a slot does
abbrev pub state_name : SlotState → List ℕ
state_name slot.Free = codes "FREE"
state_name slot.Held = codes "HELD"
state_name (slot.Busy s) = codes "BUSY"
state_name slot.Closing = codes "CLOSING"

-- the session of a slot
abbrev pub state_session : SlotState → List ℕ
state_session slot.Free = codes "null"
state_session slot.Held = codes "null"
state_session (slot.Busy s) = codes "\"" ++ s ++ codes "\""
state_session slot.Closing = codes "null"

-- a slot with this index in its node
unfoldable pub written_state : ℕ → SlotState → List ℕ
written_state index s =
    codes "{\"slot\":" ++ decimal index ++ codes ",\"state\":\"" ++ state_name s ++ codes "\",\"session\":" ++ state_session s ++ codes "}"

-- slots whose indexes begin with this one
abbrev pub written_states : ℕ → List SlotState → List (List ℕ)
written_states index [] = []
written_states index (s ∷ states) = written_state index s ∷ written_states (index + 1) states

-- a group whose slots begin with this index
unfoldable pub written_group : ℕ → SlotGroup → List SlotState → List ℕ
written_group index group states =
    codes "{\"stereotype\":" ++ written_caps group.stereotype ++ codes ",\"states\":[" ++ join_with_byte 44 (written_states index states) ++ codes "]}"

-- groups, each with as many of the slots as it counts, in order
abbrev pub written_groups : ℕ → List SlotGroup → List SlotState → List (List ℕ)
written_groups index [] states = []
written_groups index (g ∷ groups) states =
    written_group index g (take g.count states) ∷ written_groups (index + length (take g.count states)) groups (drop g.count states)

-- a node's number and names
unfoldable pub written_names : NodeView → List ℕ
written_names n =
    codes "{\"node\":" ++ decimal n.node ++ codes ",\"name\":" ++ json_string n.registration.name
    ++ codes ",\"address\":" ++ json_string n.registration.address

-- how it stands, and how many sessions it takes
unfoldable pub written_limits : NodeView → List ℕ
written_limits n =
    codes ",\"availability\":\"" ++ availability n.standing ++ codes "\",\"maxSessions\":" ++ decimal n.registration.max_sessions

-- a node
unfoldable pub written_node : NodeView → List ℕ
written_node n =
    written_names n ++ written_limits n ++ codes ",\"slots\":[" ++ join_with_byte 44 (written_groups 0 n.registration.groups n.slots) ++ codes "]}"

-- whether a new session could start, and the message that says so
abbrev pub written_ready : Bool → List ℕ
written_ready true = codes "{\"ready\":true,\"message\":\"grid is ready\""
written_ready false = codes "{\"ready\":false,\"message\":\"grid has no free slot\""

-- the value of the status
unfoldable pub written_status : View → List ℕ
written_status view = written_ready view.ready ++ codes ",\"nodes\":[" ++ join_with_byte 44 (map written_node view.nodes) ++ codes "]}"

-- the body of the status
unfoldable pub status_bytes : View → List ℕ
status_bytes view = value_bytes (written_status view)

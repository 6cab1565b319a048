-- Which change may follow a history.
use Rattle.std.specs.Prelude.{ℕ, ◌+◌, ◌-◌, ◌^◌, min, Bool, true, false, not, ◌&&◌, ◌||◌, nat_eq, nat_lt, nat_le, bytes_eq, List, length, Option, None, Some, unwrap_or, option_map}
use Rattle.std.specs.List.{list_any}
use Rattle.grid_types.specs.declared.entry.Entry.{Entry}
use Rattle.grid_types.specs.declared.entry.Change.{Change}
use Rattle.grid_types.specs.declared.entry.Change.TheVariants as change
use Rattle.grid_types.specs.declared.entry.FailWhy.{FailWhy}
use Rattle.grid_types.specs.declared.entry.FailWhy.TheVariants as why
use Rattle.grid_types.specs.declared.entry.EndCause.{EndCause}
use Rattle.grid_types.specs.declared.entry.EndCause.TheVariants as cause
use Rattle.grid_types.specs.declared.names.SlotId.{SlotId}
use Rattle.grid_types.specs.declared.capabilities.Cap.{Cap}
use Rattle.grid_types.specs.declared.capabilities.Registration.{Registration}
use Rattle.grid_types.specs.declared.config.HubConfig.{HubConfig}
use Rattle.grid_types.specs.Lists.{when}
use Rattle.grid_types.specs.declared.limits.TheConstants.{LAST_MOMENT, MOST_CHOICES, MOST_DRAIN_AFTER, MOST_NODES, MOST_QUEUE_BYTES, MOST_SESSIONS, MOST_SLOTS}
use Rattle.grid_types.specs.Capabilities.{request_bytes}
use Rattle.grid_types.specs.QueueTime.{queue_time}
use Rattle.grid_types.specs.Matching.{meets}
use Rattle.grid_types.specs.History.{clock, nodes, next_node, next_request, last_told}
use Rattle.grid_types.specs.Nodes.{is_base_up, is_registered, is_suspect, beat_of, registration_of, stereotypes}
use Rattle.grid_types.specs.Slots.{slot_eq, holder, is_held_by, is_closing, owner, listed}
use Rattle.grid_types.specs.Requests.{place, is_waiting, is_held, is_unsettled, is_settled, is_taken, asked_of, deadline_of, choices_of, choice_of, is_barred, unsettled, unsettled_bytes}
use Rattle.grid_types.specs.Sessions.{is_live, is_live_session, active}
use Rattle.grid_types.specs.Fit.{serves}
use Rattle.grid_types.specs.Choice.{Assignment, chosen}

-- the last moment that the hub sets a deadline to
abbrev pub last_moment : ℕ
last_moment = LAST_MOMENT

-- the most bytes of all requests that are not settled
abbrev pub most_bytes : ℕ
most_bytes = MOST_QUEUE_BYTES

-- there is a registration, and it has this name
abbrev pub has_name : List ℕ → Option Registration → Bool
has_name name None = false
has_name name (Some registration) = bytes_eq registration.name name

-- the node is registered under the name
abbrev pub is_named : List Entry → List ℕ → ℕ → Bool
is_named history name node =
    is_registered history node
    && has_name name (registration_of history node)

-- some node is registered under the name
abbrev pub is_name_taken : List Entry → List ℕ → Bool
is_name_taken history name = list_any (is_named history name) (nodes history)

-- absent, or from 1 to 1,000,000
abbrev pub is_drain_count : Option ℕ → Bool
is_drain_count None = true
is_drain_count (Some count) = nat_le 1 count && nat_le count MOST_DRAIN_AFTER

-- 1 to 64 slots, 1 to 64 sessions at most, and a count to drain after within its limits
abbrev pub is_well_sized : Registration → Bool
is_well_sized registration =
    nat_le 1 (length (stereotypes registration.groups))
    && nat_le (length (stereotypes registration.groups)) MOST_SLOTS
    && nat_le 1 registration.max_sessions
    && nat_le registration.max_sessions MOST_SESSIONS
    && is_drain_count registration.drain_after

-- a slot of a registered node matches a choice
abbrev pub is_supported : List Entry → List (List Cap) → Bool
is_supported history choices =
    list_any (λ node. is_registered history node && serves history node choices) (nodes history)

-- the deadline of a request of these choices that is queued at the moment
abbrev pub deadline_at : HubConfig → List (List Cap) → ℕ → ℕ
deadline_at config choices moment = min (moment + queue_time config choices) last_moment

-- the queue has room for one more request of these choices, by its count and by its bytes
abbrev pub has_room : HubConfig → List Entry → List (List Cap) → Bool
has_room config history choices =
    nat_lt (length (unsettled history)) config.queue_requests
    && nat_le (unsettled_bytes history + request_bytes choices) most_bytes

-- there is an assignment, and it is this one
abbrev pub is_assignment : ℕ → ℕ → SlotId → Option Assignment → Bool
is_assignment request choice slot None = false
is_assignment request choice slot (Some assignment) =
    nat_eq assignment.request request
    && nat_eq assignment.choice choice
    && slot_eq assignment.slot slot

-- the choice that a change reserves the slot with
abbrev pub reserved_choice_told : SlotId → Change → Option ℕ
reserved_choice_told slot (change.Reserved request named choice at) =
    when (slot_eq named slot) choice
reserved_choice_told slot other = None

-- the choice that the slot's last reservation named, 0 where there is none
abbrev pub reserved_choice : List Entry → SlotId → ℕ
reserved_choice history slot =
    unwrap_or (last_told (λ _ entry. reserved_choice_told slot entry.change) history) 0

-- the capabilities that a reservation wants
abbrev pub wanted_of : List Entry → ℕ → SlotId → List Cap
wanted_of history request slot = choice_of history request (reserved_choice history slot)

-- there is a caller, and it is this one
abbrev pub is_caller : ℕ → Option ℕ → Bool
is_caller caller None = false
is_caller caller (Some found) = nat_eq found caller

-- the caller has the slot for the request
abbrev pub has_slot : List Entry → ℕ → ℕ → SlotId → Bool
has_slot history caller request slot =
    is_held_by request (holder history slot) && is_caller caller (owner history slot)

-- the node may be tried after a failure on the slot: another node of base Up, not barred for the
-- request, with a slot that matches a choice of it; it may be suspect, since it may come back
abbrev pub is_alternative : List Entry → ℕ → SlotId → ℕ → Bool
is_alternative history request slot node =
    is_base_up history node
    && not (is_barred history request node)
    && not (nat_eq node slot.node)
    && serves history node (choices_of history request)

-- a failure on the slot settles the request: it is not settled yet, and there is no alternative
unfoldable pub is_last : List Entry → ℕ → SlotId → Bool
is_last history request slot =
    not (is_settled history request)
    && not (list_any (is_alternative history request slot) (nodes history))

-- a start that failed at the node or on the way to it
abbrev pub is_start_failure : FailWhy → Bool
is_start_failure (why.NodeRefused words) = true
is_start_failure why.Unreachable = true
is_start_failure why.NotHttp = true
is_start_failure why.BadReply = true
is_start_failure why.NoMemory = true
is_start_failure other = false

-- the cause may be given for a session that the node had started and the hub does not keep: late,
-- then gone, then a duplicate, then a mismatch, each where none before it holds
abbrev pub is_refusal : List Entry → ℕ → SlotId → List ℕ → FailWhy → Bool
is_refusal history request slot session why.Late = is_settled history request
is_refusal history request slot session why.NodeGone =
    not (is_settled history request)
    && not (is_registered history slot.node)
is_refusal history request slot session why.Duplicate =
    not (is_settled history request)
    && is_registered history slot.node
    && is_live_session history session
is_refusal history request slot session why.Mismatch =
    not (is_settled history request)
    && is_registered history slot.node
    && not (is_live_session history session)
is_refusal history request slot session reason = false

-- the cause is one of a start without a session, or of one whose session is not kept
abbrev pub is_failure : List Entry → ℕ → SlotId → Option (List ℕ) → FailWhy → Bool
is_failure history request slot None reason = is_start_failure reason
is_failure history request slot (Some session) reason =
    is_refusal history request slot session reason

-- both or neither
abbrev pub bool_eq : Bool → Bool → Bool
bool_eq true other = other
bool_eq false other = not other

-- the caller queued the request
abbrev pub is_asker : List Entry → ℕ → ℕ → Bool
is_asker history caller request =
    is_caller caller (option_map (λ asked. asked.caller) (asked_of history request))

-- the session may end for this cause
abbrev pub may_end : HubConfig → List Entry → ℕ → EndCause → ℕ → Bool
may_end config history binding cause.Quit moment = true
may_end config history binding cause.Idle moment =
    nat_le config.idle_ms (moment - active history binding)

-- the change, made by the caller, may follow the history
unfoldable pub permitted : HubConfig → List Entry → ℕ → Change → Bool
permitted config history caller (change.Registered node registration at) =
    nat_le (clock history) at.0
    && nat_eq node (next_node config history)
    && nat_lt node (2 ^ 32 - 1)
    && not (is_name_taken history registration.name)
    && nat_lt (length (listed history)) MOST_NODES
    && is_well_sized registration
permitted config history caller (change.Beaten node at) =
    nat_le (clock history) at.0
    && is_registered history node
permitted config history caller (change.Removed node at) =
    nat_le (clock history) at.0
    && is_registered history node
permitted config history caller (change.Draining node at) =
    nat_le (clock history) at.0
    && is_base_up history node
permitted config history caller (change.Lapsed node at) =
    nat_le (clock history) at.0
    && is_registered history node
    && nat_le config.down_ms (at.0 - beat_of history node)
permitted config history caller (change.Queued request choices deadline at) =
    nat_le (clock history) at.0
    && nat_eq request (next_request config history)
    && nat_lt request (2 ^ 64 - 1)
    && nat_le 1 (length choices)
    && nat_le (length choices) MOST_CHOICES
    && nat_eq deadline.0 (deadline_at config choices at.0)
    && has_room config history choices
    && (not config.reject_unsupported || is_supported history choices)
permitted config history caller (change.Reserved request slot choice at) =
    nat_le (clock history) at.0
    && is_assignment request choice slot (chosen history at.0)
permitted config history caller (change.Bound request slot session capabilities at) =
    nat_le (clock history) at.0
    && is_held (place history request)
    && has_slot history caller request slot
    && is_registered history slot.node
    && not (is_live_session history session)
    && meets (wanted_of history request slot) capabilities
permitted config history caller (change.Failed request slot reason orphan last at) =
    nat_le (clock history) at.0
    && has_slot history caller request slot
    && is_failure history request slot orphan reason
    && bool_eq last (is_last history request slot)
permitted config history caller (change.TimedOut request at) =
    nat_le (clock history) at.0
    && is_unsettled (place history request)
    && nat_le (deadline_of history request) at.0
permitted config history caller (change.Cleared request at) =
    nat_le (clock history) at.0
    && is_waiting (place history request)
permitted config history caller (change.Taken request at) =
    nat_le (clock history) at.0
    && is_settled history request
    && not (is_taken history request)
    && is_asker history caller request
permitted config history caller (change.Touched binding at) =
    nat_le (clock history) at.0
    && is_live history binding
permitted config history caller (change.Ended binding ending at) =
    nat_le (clock history) at.0
    && is_live history binding
    && may_end config history binding ending at.0
permitted config history caller (change.Freed slot) =
    is_closing (holder history slot)
    && is_caller caller (owner history slot)
permitted config history caller (change.Suspected node at) =
    nat_le (clock history) at.0
    && is_registered history node
    && not (is_suspect history node)
    && nat_le config.lapse_ms (at.0 - beat_of history node)

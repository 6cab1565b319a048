-- What a log remembers of a history: which nodes are registered and which of them are suspect, which requests are not settled
-- yet, and which sessions run, each list in order, the oldest first.
use Rattle.std.specs.Prelude.{ℕ, ◌-◌, ◌^◌, min, Bool, false, not, ◌&&◌, nat_eq, List, [], ◌∷◌, ◌++◌, Option, None, Some, option_map, filter, find, if◌then◌else◌}
use Rattle.grid_types.specs.declared.capabilities.SlotGroup.{SlotGroup}
use Rattle.grid_types.specs.declared.entry.Entry.{Entry}
use Rattle.grid_types.specs.declared.entry.Change.{Change}
use Rattle.grid_types.specs.declared.entry.Change.TheVariants as change
use Rattle.grid_types.specs.Lists.{total}
use Rattle.grid_log.specs.declared.rows.Clearing.{Clearing}
use Rattle.grid_log.specs.declared.rows.NodeRow.{NodeRow}
use Rattle.grid_log.specs.declared.rows.WaitRow.{WaitRow}
use Rattle.grid_log.specs.declared.rows.SessionRow.{SessionRow}

-- a row of the node, of the request, of the binding, and of a session on the node
abbrev pub is_of_node : ℕ → NodeRow → Bool
is_of_node node row = nat_eq row.node node

abbrev pub is_of_request : ℕ → WaitRow → Bool
is_of_request request row = nat_eq row.request request

abbrev pub is_of_binding : ℕ → SessionRow → Bool
is_of_binding binding row = nat_eq row.binding binding

abbrev pub runs_on : ℕ → SessionRow → Bool
runs_on node row = nat_eq row.slot.node node

-- how many slots the groups have, as far as 64 bits count
abbrev pub slots_in : List SlotGroup → ℕ
slots_in groups = min (total (λ group. group.count) groups) (2 ^ 64 - 1)

-- the nodes that are registered, after a change
abbrev pub nodes_after : List NodeRow → Change → List NodeRow
nodes_after rows (change.Registered node registration at) =
    rows
    ++ record { node = node; name = registration.name; slots = slots_in registration.groups }
    ∷ []
nodes_after rows (change.Removed node at) = filter (λ row. not (is_of_node node row)) rows
nodes_after rows (change.Lapsed node at) = filter (λ row. not (is_of_node node row)) rows
nodes_after rows other = rows

-- the nodes that were suspected and gave no sign of life since, after a change
abbrev pub suspects_after : List ℕ → Change → List ℕ
suspects_after nodes (change.Suspected node at) =
    filter (λ other. not (nat_eq other node)) nodes ++ node ∷ []
suspects_after nodes (change.Beaten node at) = filter (λ other. not (nat_eq other node)) nodes
suspects_after nodes (change.Removed node at) = filter (λ other. not (nat_eq other node)) nodes
suspects_after nodes (change.Lapsed node at) = filter (λ other. not (nat_eq other node)) nodes
suspects_after nodes other = nodes

-- the requests that were queued and are not settled, after a change
abbrev pub unsettled_after : List WaitRow → Change → List WaitRow
unsettled_after rows (change.Queued request choices deadline at) =
    rows ++ record { request = request; at = at } ∷ []
unsettled_after rows (change.Bound request slot session capabilities at) =
    filter (λ row. not (is_of_request request row)) rows
unsettled_after rows (change.Failed request slot reason orphan last at) =
    if last then filter (λ row. not (is_of_request request row)) rows else rows
unsettled_after rows (change.TimedOut request at) =
    filter (λ row. not (is_of_request request row)) rows
unsettled_after rows (change.Cleared request at) =
    filter (λ row. not (is_of_request request row)) rows
unsettled_after rows other = rows

-- the sessions that run, after a change
abbrev pub sessions_after : List SessionRow → Change → List SessionRow
sessions_after rows (change.Bound request slot session capabilities at) =
    rows ++ record { binding = request; session = session; slot = slot; at = at } ∷ []
sessions_after rows (change.Ended binding ending at) =
    filter (λ row. not (is_of_binding binding row)) rows
sessions_after rows (change.Lapsed node at) = filter (λ row. not (runs_on node row)) rows
sessions_after rows other = rows

-- the name of a registered node
abbrev pub name_in : List NodeRow → ℕ → Option (List ℕ)
name_in rows node = option_map (λ row. row.name) (find (is_of_node node) rows)

-- when a request was queued that is not settled
abbrev pub queued_in : List WaitRow → ℕ → Option ℕ
queued_in rows request = option_map (λ row. row.at.0) (find (is_of_request request) rows)

-- the clearing that a change by a caller is
abbrev pub clearing_of : ℕ → Change → Option Clearing
clearing_of caller (change.Cleared request at) =
    Some (record { caller = caller; request = request })
clearing_of caller other = None

-- it is the caller's, and of this request
abbrev pub is_clearing : ℕ → ℕ → Option Clearing → Bool
is_clearing caller request None = false
is_clearing caller request (Some clearing) =
    nat_eq clearing.caller caller && nat_eq clearing.request request

-- all that is remembered of a history, with the clearing that its last entry is
pub record Past : Type 0 where
  pub nodes : List NodeRow
  pub suspects : List ℕ
  pub unsettled : List WaitRow
  pub sessions : List SessionRow
  pub cleared : Option Clearing

abbrev pub past_after : Past → Entry → Past
past_after past entry = record {
  nodes = nodes_after past.nodes entry.change;
  suspects = suspects_after past.suspects entry.change;
  unsettled = unsettled_after past.unsettled entry.change;
  sessions = sessions_after past.sessions entry.change;
  cleared = clearing_of entry.caller entry.change;
}

abbrev pub no_past : Past
no_past = record { nodes = []; suspects = []; unsettled = []; sessions = []; cleared = None }

-- all that is remembered behind a history, where this was remembered before it
abbrev pub past_on : Past → List Entry → Past
past_on past [] = past
past_on past (entry ∷ history) = past_after (past_on past history) entry

abbrev pub past_of : List Entry → Past
past_of history = past_on no_past history

-- Which slots are in use after a change, in order, which nodes are draining, and what they are like.
use Rattle.std.specs.Prelude.{ℕ, Bool, true, false, not, ◌&&◌, ◌||◌, nat_eq, nat_lt, List, [], ◌∷◌, ◌++◌, Option, None, Some, filter, find, is_some, if◌then◌else◌}
use Rattle.std.specs.List.{insert, list_any, position_or_len}
use Rattle.grid_types.specs.declared.entry.Change.{Change}
use Rattle.grid_types.specs.declared.entry.Change.TheVariants as change
use Rattle.grid_types.specs.declared.names.SlotId.{SlotId}
use Rattle.grid_types.specs.Slots.{slot_eq}
use Rattle.grid_log.specs.declared.rows.SessionRow.{SessionRow}
use Rattle.grid_log.specs.declared.rows.WaitRow.{WaitRow}
use Rattle.grid_log.specs.Past.{is_of_binding}
use Rattle.grid_farm.specs.declared.rows.SlotUse.{SlotUse}
use Rattle.grid_farm.specs.declared.rows.SlotUse.TheVariants as slot_use
use Rattle.grid_farm.specs.declared.rows.UseRow.{UseRow}

-- the rows without the slot
abbrev pub without_slot : SlotId → List UseRow → List UseRow
without_slot slot rows = filter (λ row. not (slot_eq row.slot slot)) rows

-- slots stand by the numbers of their nodes, and those of a node by their own
abbrev pub comes_before : SlotId → SlotId → Bool
comes_before slot other =
    nat_lt slot.node other.node
    || (nat_eq slot.node other.node && nat_lt slot.index other.index)

-- how many rows stand before the first whose slot comes behind this one
abbrev pub place_of : SlotId → List UseRow → ℕ
place_of slot rows = position_or_len (λ row. comes_before slot row.slot) rows

-- the slot is used so from here on
abbrev pub with_slot : SlotId → SlotUse → List UseRow → List UseRow
with_slot slot state rows =
    insert (without_slot slot rows) (place_of slot (without_slot slot rows))
    (record { slot = slot; state = state })

-- the slot of a session that has ended is closed, where it ran
abbrev pub with_ended : Option SessionRow → List UseRow → List UseRow
with_ended None rows = rows
with_ended (Some row) rows = with_slot row.slot slot_use.Closing rows

-- it starts a session, for this request; it runs a session; it ends one
abbrev pub is_starting : SlotUse → Bool
is_starting (slot_use.Starting request) = true
is_starting other = false

abbrev pub is_start_of : ℕ → SlotUse → Bool
is_start_of request (slot_use.Starting named) = nat_eq named request
is_start_of request other = false

abbrev pub is_busy : SlotUse → Bool
is_busy slot_use.Busy = true
is_busy other = false

abbrev pub is_closing : SlotUse → Bool
is_closing slot_use.Closing = true
is_closing other = false

-- it runs a session on the node
abbrev pub is_busy_on : ℕ → UseRow → Bool
is_busy_on node row = nat_eq row.slot.node node && is_busy row.state

-- the slots that are not free, after a change; the sessions are those before it
abbrev pub uses_after : List SessionRow → List UseRow → Change → List UseRow
uses_after sessions rows (change.Reserved request slot choice at) =
    with_slot slot (slot_use.Starting request) rows
uses_after sessions rows (change.Bound request slot session capabilities at) =
    with_slot slot slot_use.Busy rows
uses_after sessions rows (change.Failed request slot reason orphan last at) =
    if is_some orphan then with_slot slot slot_use.Closing rows else without_slot slot rows
uses_after sessions rows (change.Ended binding ending at) =
    with_ended (find (is_of_binding binding) sessions) rows
uses_after sessions rows (change.Lapsed node at) =
    filter (λ row. not (is_busy_on node row)) rows
uses_after sessions rows (change.Freed slot) = without_slot slot rows
uses_after sessions rows other = rows

-- the nodes that are draining, after a change
abbrev pub draining_after : List ℕ → Change → List ℕ
draining_after nodes (change.Draining node at) =
    filter (λ other. not (nat_eq other node)) nodes ++ node ∷ []
draining_after nodes (change.Removed node at) = filter (λ other. not (nat_eq other node)) nodes
draining_after nodes (change.Lapsed node at) = filter (λ other. not (nat_eq other node)) nodes
draining_after nodes other = nodes

-- a session is started for the request
abbrev pub is_held : List UseRow → ℕ → Bool
is_held rows request = list_any (λ row. is_start_of request row.state) rows

-- the requests that wait: those that are not settled and for which no session is started
abbrev pub waiting_in : List UseRow → List WaitRow → List WaitRow
waiting_in uses rows = filter (λ row. not (is_held uses row.request)) rows

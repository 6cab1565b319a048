-- What tokens tell, and when one is good.
use Rattle.std.specs.Prelude.{ℕ, Bool, false, not, ◌&&◌, nat_eq, bytes_eq, List, Option, None, Some}
use Rattle.std.specs.List.{list_any}
use Rattle.grid_types.specs.declared.entry.Entry.{Entry}
use Rattle.grid_types.specs.declared.entry.Change.{Change}
use Rattle.grid_types.specs.declared.entry.Change.TheVariants as change
use Rattle.grid_types.specs.declared.names.SlotId.{SlotId}
use Rattle.grid_types.specs.declared.capabilities.Cap.{Cap}
use Rattle.grid_types.specs.Nodes.{address_of}
use Rattle.grid_types.specs.Slots.{slot_eq, holder, owner, is_closing}
use Rattle.grid_types.specs.Requests.{deadline_of, is_taken}
use Rattle.grid_types.specs.Bindings.{Running}
use Rattle.grid_types.specs.Sessions.{live}
use Rattle.grid_types.specs.Permitted.{has_slot, is_caller, is_asker, reserved_choice, wanted_of}

-- a request that was queued
pub record Ticket : Type 0 where
  pub request : ℕ
  pub deadline : ℕ

-- a slot that is held for a request
pub record Reservation : Type 0 where
  pub request : ℕ
  pub slot : SlotId
  pub choice : ℕ
  pub address : List ℕ
  pub wanted : List Cap

-- a slot whose session has ended or was not kept
pub record Closing : Type 0 where
  pub session : List ℕ
  pub slot : SlotId
  pub address : List ℕ
  pub quit : Bool

-- what the ticket of a request tells
abbrev pub ticket_of : List Entry → ℕ → Ticket
ticket_of history request = record { request = request; deadline = deadline_of history request }

-- what the reservation of a slot for a request tells
abbrev pub reservation_of : List Entry → ℕ → SlotId → Reservation
reservation_of history request slot = record {
  request = request;
  slot = slot;
  choice = reserved_choice history slot;
  address = address_of history slot.node;
  wanted = wanted_of history request slot;
}

-- there is a running session, and it runs at the address
abbrev pub runs_at : List ℕ → Option Running → Bool
runs_at address None = false
runs_at address (Some running) = bytes_eq running.address address

-- what the closing of a slot and its session tells, by the history up to the entry that made it:
-- the session is to be ended at the node, unless it is live at that very address
abbrev pub closing_of : List Entry → SlotId → List ℕ → Closing
closing_of history slot session = record {
  session = session;
  slot = slot;
  address = address_of history slot.node;
  quit = not (runs_at (address_of history slot.node) (live history session));
}

-- a ticket is good for a caller: the caller queued the request, and it is not taken
abbrev pub is_good_ticket : List Entry → ℕ → ℕ → Bool
is_good_ticket history caller request =
    is_asker history caller request && not (is_taken history request)

-- a reservation is good for a caller: the caller has the slot for the request
abbrev pub is_good_reservation : List Entry → ℕ → ℕ → SlotId → Bool
is_good_reservation history caller request slot = has_slot history caller request slot

-- a closing is good for a caller: the slot is closing since an entry of the caller
abbrev pub is_good_closing : List Entry → ℕ → SlotId → Bool
is_good_closing history caller slot =
    is_closing (holder history slot) && is_caller caller (owner history slot)

-- a Taken uses a ticket
abbrev pub takes_request : ℕ → Change → Bool
takes_request request (change.Taken named at) = nat_eq named request
takes_request request other = false

-- a Bound or a Failed uses a reservation
abbrev pub spends_reservation : ℕ → SlotId → Change → Bool
spends_reservation request slot (change.Bound named used session capabilities at) =
    nat_eq named request && slot_eq used slot
spends_reservation request slot (change.Failed named used reason orphan last at) =
    nat_eq named request && slot_eq used slot
spends_reservation request slot other = false

-- a Freed uses a closing
abbrev pub frees_slot : SlotId → Change → Bool
frees_slot slot (change.Freed named) = slot_eq named slot
frees_slot slot other = false

-- some of the entries is the caller's and is such a use
abbrev pub has_use : ℕ → (Change → Bool) → List Entry → Bool
has_use caller is_use entries =
    list_any (λ entry. nat_eq entry.caller caller && is_use entry.change) entries

-- Which tokens a call is handed.
use Rattle.std.specs.Prelude.{ℕ, Bool, false, ◌&&◌, nat_eq}
use Rattle.grid_types.specs.declared.names.SlotId.{SlotId}
use Rattle.grid_types.specs.Slots.{slot_eq}
use Rattle.grid_types.specs.Calls.{Call}

-- a ticket of the request
abbrev pub hands_ticket : Call → ℕ → Bool
hands_ticket (Call.poll ticket) request = nat_eq ticket.request request
hands_ticket (Call.withdraw ticket) request = nat_eq ticket.request request
hands_ticket call request = false

-- a reservation of the slot for the request
abbrev pub hands_reservation : Call → ℕ → SlotId → Bool
hands_reservation (Call.bind reservation session capabilities) request slot =
    nat_eq reservation.request request && slot_eq reservation.slot slot
hands_reservation (Call.fail reservation reason) request slot =
    nat_eq reservation.request request && slot_eq reservation.slot slot
hands_reservation call request slot = false

-- a closing of the slot
abbrev pub hands_closing : Call → SlotId → Bool
hands_closing (Call.freed closing) slot = slot_eq closing.slot slot
hands_closing call slot = false

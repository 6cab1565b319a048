-- Which tokens a reply gives, and that no other are new.
use Rattle.std.specs.Prelude.{◌≡◌, ◌⊎◌, ℕ, Bool, true, false, ◌&&◌, nat_eq, List}
use Rattle.grid_types.specs.declared.config.HubConfig.{HubConfig}
use Rattle.grid_types.specs.declared.entry.Entry.{Entry}
use Rattle.grid_types.specs.declared.names.SlotId.{SlotId}
use Rattle.grid_types.specs.Legal.{legal}
use Rattle.grid_types.specs.Slots.{slot_eq}
use Rattle.grid_types.specs.Tokens.{is_good_ticket, is_good_reservation, is_good_closing}
use Rattle.grid_types.specs.Calls.{Call, Reply}
use Rattle.grid_types.specs.HandedIn.{hands_ticket, hands_reservation, hands_closing}
use Rattle.grid_types.specs.HubAnswers.{hub, after_call}

-- the reply gives a ticket of the request
abbrev pub gives_ticket : Reply → ℕ → Bool
gives_ticket (Reply.queued ticket) request = nat_eq ticket.request request
gives_ticket (Reply.not_yet ticket) request = nat_eq ticket.request request
gives_ticket (Reply.yours ticket reservation) request = nat_eq ticket.request request
gives_ticket reply request = false

-- the reply gives a reservation of the slot for the request
abbrev pub gives_reservation : Reply → ℕ → SlotId → Bool
gives_reservation (Reply.yours ticket reservation) request slot =
    nat_eq reservation.request request && slot_eq reservation.slot slot
gives_reservation (Reply.assigned reservation) request slot =
    nat_eq reservation.request request && slot_eq reservation.slot slot
gives_reservation reply request slot = false

-- the reply gives a closing of the slot
abbrev pub gives_closing : Reply → SlotId → Bool
gives_closing (Reply.late closing) slot = slot_eq closing.slot slot
gives_closing (Reply.node_gone closing) slot = slot_eq closing.slot slot
gives_closing (Reply.duplicate closing) slot = slot_eq closing.slot slot
gives_closing (Reply.mismatch closing) slot = slot_eq closing.slot slot
gives_closing (Reply.ended closing) slot = slot_eq closing.slot slot
gives_closing (Reply.expired closing) slot = slot_eq closing.slot slot
gives_closing reply slot = false

-- a ticket that is good after a call was good before and not handed in, or the reply gives it
abbrev pub TicketsComeFromReplies : Type 0
TicketsComeFromReplies =
    (config : HubConfig) (history : List Entry) (caller : ℕ) (call : Call) (at request : ℕ) →
    is_good_ticket (after_call config history caller call at) caller request ≡ true →
    ((is_good_ticket history caller request ≡ true) × (hands_ticket call request ≡ false))
    ⊎ (gives_ticket (hub config history caller call at).reply request ≡ true)

-- so is a reservation
abbrev pub ReservationsComeFromReplies : Type 0
ReservationsComeFromReplies =
    (config : HubConfig) (history : List Entry) (caller : ℕ) (call : Call) (at request : ℕ)
    (slot : SlotId) →
    is_good_reservation (after_call config history caller call at) caller request slot ≡ true →
    ((is_good_reservation history caller request slot ≡ true)
    × (hands_reservation call request slot ≡ false))
    ⊎ (gives_reservation (hub config history caller call at).reply request slot ≡ true)

-- so is a closing, where the history is legal
abbrev pub ClosingsComeFromReplies : Type 0
ClosingsComeFromReplies =
    (config : HubConfig) (history : List Entry) (caller : ℕ) (call : Call) (at : ℕ)
    (slot : SlotId) →
    legal config history ≡ true →
    is_good_closing (after_call config history caller call at) caller slot ≡ true →
    ((is_good_closing history caller slot ≡ true) × (hands_closing call slot ≡ false))
    ⊎ (gives_closing (hub config history caller call at).reply slot ≡ true)

-- each token that is good after a call comes so
pub record TokensComeFromReplies : Type 0 where
  pub tickets : TicketsComeFromReplies
  pub reservations : ReservationsComeFromReplies
  pub closings : ClosingsComeFromReplies

-- The laws of the definitions.
use Rattle.std.specs.Prelude.{ℕ, ◌≡◌, Bool, true, false, ◌&&◌, nat_le, List, ◌++◌, length, Some, None, ◌↔◌}
use Rattle.grid_types.specs.declared.config.HubConfig.{HubConfig}
use Rattle.grid_types.specs.declared.entry.Entry.{Entry}
use Rattle.grid_types.specs.declared.limits.TheConstants.{MOST_CHOICES}
use Rattle.grid_types.specs.declared.names.SlotId.{SlotId}
use Rattle.grid_types.specs.Bindings.{Running}
use Rattle.grid_types.specs.Sessions.{IsRunning, live}
use Rattle.grid_types.specs.Fit.{fits}
use Rattle.grid_types.specs.Choice.{Assignment, chosen, assignment_before}
use Rattle.grid_types.specs.LookupMap.{find, changes}
use Rattle.grid_types.specs.Permitted.{is_well_sized, is_start_failure}
use Rattle.grid_types.specs.Legal.{legal}
use Rattle.grid_types.specs.Tokens.{ticket_of, reservation_of, is_good_ticket, is_good_reservation, is_good_closing, takes_request, spends_reservation, frees_slot, has_use}
use Rattle.grid_types.specs.Calls.{Call, Reply}
use Rattle.grid_types.specs.HubAnswers.{hub, after_call}
use Rattle.grid_types.specs.Safe.{IsSafe}

-- what a call needs of its caller: its tokens are good, and what it hands in is within its limits
abbrev pub is_good_call : List Entry → ℕ → Call → Bool
is_good_call history caller (Call.register registration) = is_well_sized registration
is_good_call history caller (Call.enqueue choices) =
    nat_le 1 (length choices) && nat_le (length choices) MOST_CHOICES
is_good_call history caller (Call.poll ticket) = is_good_ticket history caller ticket.request
is_good_call history caller (Call.withdraw ticket) = is_good_ticket history caller ticket.request
is_good_call history caller (Call.bind reservation session capabilities) =
    is_good_reservation history caller reservation.request reservation.slot
is_good_call history caller (Call.fail reservation reason) =
    is_good_reservation history caller reservation.request reservation.slot
    && is_start_failure reason
is_good_call history caller (Call.freed closing) = is_good_closing history caller closing.slot
is_good_call history caller other = true

-- after each call of the hub of one thread its history is legal again
abbrev pub CallsStayLegal : Type 0
CallsStayLegal =
    (config : HubConfig) (history : List Entry) (caller : ℕ) (call : Call) (at : ℕ) →
    legal config history ≡ true → is_good_call history caller call ≡ true →
    legal config (after_call config history caller call at) ≡ true

-- the tokens of a reply are good for the caller
abbrev pub is_good_reply : List Entry → ℕ → Reply → Bool
is_good_reply history caller (Reply.queued ticket) = is_good_ticket history caller ticket.request
is_good_reply history caller (Reply.not_yet ticket) = is_good_ticket history caller ticket.request
is_good_reply history caller (Reply.yours ticket reservation) =
    is_good_ticket history caller ticket.request
    && is_good_reservation history caller reservation.request reservation.slot
is_good_reply history caller (Reply.assigned reservation) =
    is_good_reservation history caller reservation.request reservation.slot
is_good_reply history caller (Reply.late closing) = is_good_closing history caller closing.slot
is_good_reply history caller (Reply.node_gone closing) = is_good_closing history caller closing.slot
is_good_reply history caller (Reply.duplicate closing) = is_good_closing history caller closing.slot
is_good_reply history caller (Reply.mismatch closing) = is_good_closing history caller closing.slot
is_good_reply history caller (Reply.ended closing) = is_good_closing history caller closing.slot
is_good_reply history caller (Reply.expired closing) = is_good_closing history caller closing.slot
is_good_reply history caller other = true

-- the tokens that a call gives are good after it
abbrev pub CallsGiveGoodTokens : Type 0
CallsGiveGoodTokens =
    (config : HubConfig) (history : List Entry) (caller : ℕ) (call : Call) (at : ℕ) →
    legal config history ≡ true → is_good_call history caller call ≡ true →
    is_good_reply (after_call config history caller call at) caller
    (hub config history caller call at).reply ≡ true

-- a legal history is safe
abbrev pub LegalHistoriesAreSafe : Type 0
LegalHistoriesAreSafe = (config : HubConfig) (history : List Entry) →
    legal config history ≡ true → IsSafe history

-- in a legal history a session is live exactly where it runs
abbrev pub LiveIsRunning : Type 0
LiveIsRunning =
    (config : HubConfig) (history : List Entry) (session : List ℕ) (running : Running) →
    legal config history ≡ true →
    (live history session ≡ Some running) ↔
    (IsRunning history running × (running.session ≡ session))

-- what is chosen fits
abbrev pub ChosenFits : Type 0
ChosenFits = (history : List Entry) (moment : ℕ) (assignment : Assignment) →
    chosen history moment ≡ Some assignment →
    fits history assignment.request assignment.choice assignment.slot moment ≡ true

-- nothing is chosen only where nothing fits
abbrev pub NoneFits : Type 0
NoneFits = (history : List Entry) (moment : ℕ) → chosen history moment ≡ None →
    (request choice : ℕ) (slot : SlotId) → fits history request choice slot moment ≡ false

-- nothing that fits comes before what is chosen
abbrev pub ChosenIsFirst : Type 0
ChosenIsFirst = (history : List Entry) (moment : ℕ) (assignment : Assignment) →
    chosen history moment ≡ Some assignment →
    (request choice : ℕ) (slot : SlotId) → fits history request choice slot moment ≡ true →
    assignment_before history (record { request = request; choice = choice; slot = slot })
    assignment ≡ false

-- what fits with nothing that fits before it is chosen
abbrev pub FirstIsChosen : Type 0
FirstIsChosen = (history : List Entry) (moment : ℕ) (assignment : Assignment) →
    fits history assignment.request assignment.choice assignment.slot moment ≡ true →
    ((request choice : ℕ) (slot : SlotId) → fits history request choice slot moment ≡ true →
    assignment_before history (record { request = request; choice = choice; slot = slot })
    assignment ≡ false) →
    chosen history moment ≡ Some assignment

-- in a legal history the published map finds what is live
abbrev pub MapFindsLive : Type 0
MapFindsLive = (config : HubConfig) (history : List Entry) (session : List ℕ) →
    legal config history ≡ true → find (changes history) session ≡ live history session

-- a good ticket stays good in each legal history that goes on without an entry of its caller that
-- uses it
abbrev pub TicketsStayGood : Type 0
TicketsStayGood = (config : HubConfig) (newer history : List Entry) (caller request : ℕ) →
    legal config (newer ++ history) ≡ true →
    is_good_ticket history caller request ≡ true →
    has_use caller (takes_request request) newer ≡ false →
    is_good_ticket (newer ++ history) caller request ≡ true

-- so does a good reservation, until its caller binds or fails with it
abbrev pub ReservationsStayGood : Type 0
ReservationsStayGood =
    (config : HubConfig) (newer history : List Entry) (caller request : ℕ) (slot : SlotId) →
    legal config (newer ++ history) ≡ true →
    is_good_reservation history caller request slot ≡ true →
    has_use caller (spends_reservation request slot) newer ≡ false →
    is_good_reservation (newer ++ history) caller request slot ≡ true

-- so does a good closing, until its caller frees its slot
abbrev pub ClosingsStayGood : Type 0
ClosingsStayGood =
    (config : HubConfig) (newer history : List Entry) (caller : ℕ) (slot : SlotId) →
    legal config (newer ++ history) ≡ true →
    is_good_closing history caller slot ≡ true →
    has_use caller (frees_slot slot) newer ≡ false →
    is_good_closing (newer ++ history) caller slot ≡ true

-- what a good ticket tells stays the same for as long
abbrev pub TicketsTellTheSame : Type 0
TicketsTellTheSame = (config : HubConfig) (newer history : List Entry) (caller request : ℕ) →
    legal config (newer ++ history) ≡ true →
    is_good_ticket history caller request ≡ true →
    has_use caller (takes_request request) newer ≡ false →
    ticket_of (newer ++ history) request ≡ ticket_of history request

-- what a good reservation tells stays the same for as long
abbrev pub ReservationsTellTheSame : Type 0
ReservationsTellTheSame =
    (config : HubConfig) (newer history : List Entry) (caller request : ℕ) (slot : SlotId) →
    legal config (newer ++ history) ≡ true →
    is_good_reservation history caller request slot ≡ true →
    has_use caller (spends_reservation request slot) newer ≡ false →
    reservation_of (newer ++ history) request slot ≡ reservation_of history request slot

-- The tokens that are kept beside a hub.
use Rattle.std.specs.Prelude.{◌≡◌, ℕ, ◌+◌, ◌*◌, true, List, None, Some}
use Rattle.std.specs.Ordering.{nat_cmp}
use Rattle.std.specs.BTreeMap.{get}
use Rattle.grid_types.specs.declared.entry.Entry.{Entry}
use Rattle.grid_types.specs.declared.names.SlotId.{SlotId}
use Rattle.grid_types.specs.Tokens.{Ticket, Reservation, Closing, ticket_of, reservation_of, is_good_ticket, is_good_reservation, is_good_closing}
use Rattle.grid_types.specs.Calls.{Call}
use Rattle.hub_core.specs.declared.answers.Enqueued.{Enqueued}
use Rattle.hub_core.specs.declared.answers.Enqueued.TheVariants as enqueued
use Rattle.hub_core.specs.declared.answers.Dispatched.{Dispatched}
use Rattle.hub_core.specs.declared.answers.Dispatched.TheVariants as dispatched
use Rattle.hub_core.specs.declared.answers.Ending.{Ending}
use Rattle.hub_core.specs.declared.answers.Ending.TheVariants as ending
use Rattle.hub_core.specs.declared.answers.Expiring.{Expiring}
use Rattle.hub_core.specs.declared.answers.Expiring.TheVariants as expiring
use Rattle.hub_core.specs.declared.answers.Polled.{Polled}
use Rattle.hub_core.specs.declared.answers.Polled.TheVariants as polled
use Rattle.hub_core.specs.declared.answers.Withdrawing.{Withdrawing}
use Rattle.hub_core.specs.declared.answers.Withdrawing.TheVariants as withdrawing
use Rattle.hub_core.specs.declared.answers.Binding.{Binding}
use Rattle.hub_core.specs.declared.answers.Binding.TheVariants as binding
use Rattle.trial_desk.specs.declared.drawers.Drawers.{Drawers}

-- a number for a slot
abbrev pub place_of : SlotId → ℕ
place_of s = s.node * 65_536 + s.index

-- a ticket of the request, good after H
abbrev pub IsTicket : List Entry → ℕ → Ticket → Type 0
IsTicket H r t = (t.request ≡ r) × (is_good_ticket H 0 t.request ≡ true) × (t ≡ ticket_of H t.request)

-- a reservation for the request, good after H
abbrev pub IsReservation : List Entry → ℕ → Reservation → Type 0
IsReservation H r t = (t.request ≡ r) × (is_good_reservation H 0 t.request t.slot ≡ true) × (t ≡ reservation_of H t.request t.slot)

-- a closing of the slot with the number, good after H
abbrev pub IsClosing : List Entry → ℕ → Closing → Type 0
IsClosing H p t = (place_of t.slot ≡ p) × (is_good_closing H 0 t.slot ≡ true)

-- after H each token is good, and stands under its own number
pub record Holds (H : List Entry) (drawers : Drawers) : Type 0 where
  pub tickets_good : (r : ℕ) (t : Ticket) → get nat_cmp drawers.tickets r ≡ Some t → IsTicket H r t
  pub reservations_good : (r : ℕ) (t : Reservation) → get nat_cmp drawers.reservations r ≡ Some t → IsReservation H r t
  pub closings_good : (p : ℕ) (t : Closing) → get nat_cmp drawers.closings p ≡ Some t → IsClosing H p t

-- the token that a call is handed is not among these
abbrev pub Spares : Call → Drawers → Type 0
Spares (Call.poll t) drawers = get nat_cmp drawers.tickets t.request ≡ None
Spares (Call.withdraw t) drawers = get nat_cmp drawers.tickets t.request ≡ None
Spares (Call.bind t x caps) drawers = get nat_cmp drawers.reservations t.request ≡ None
Spares (Call.fail t w) drawers = get nat_cmp drawers.reservations t.request ≡ None
Spares (Call.freed t) drawers = get nat_cmp drawers.closings (place_of t.slot) ≡ None
Spares call drawers = Unit {0}

-- the tokens of an answer are good after H
abbrev pub HasNewTicket : List Entry → Enqueued → Type 0
HasNewTicket H (enqueued.Queued t) = IsTicket H t.request t
HasNewTicket H answer = Unit {0}

abbrev pub HasReservation : List Entry → Dispatched → Type 0
HasReservation H (dispatched.Assigned t) = IsReservation H t.request t
HasReservation H answer = Unit {0}

abbrev pub HasEnded : List Entry → Ending → Type 0
HasEnded H (ending.Ended t) = IsClosing H (place_of t.slot) t
HasEnded H answer = Unit {0}

abbrev pub HasExpired : List Entry → Expiring → Type 0
HasExpired H (expiring.Expired t) = IsClosing H (place_of t.slot) t
HasExpired H answer = Unit {0}

abbrev pub HasGoodTicket : List Entry → Polled → Type 0
HasGoodTicket H (polled.NotYet t) = IsTicket H t.request t
HasGoodTicket H (polled.Yours t r) = IsTicket H t.request t × IsReservation H r.request r
HasGoodTicket H (polled.Settled o) = Unit {0}
HasGoodTicket H (polled.Memory t) = IsTicket H t.request t

abbrev pub HasOwnTicket : List Entry → Withdrawing → Type 0
HasOwnTicket H (withdrawing.NotYet t) = IsTicket H t.request t
HasOwnTicket H answer = Unit {0}

abbrev pub HasGoodClosing : List Entry → Binding → Type 0
HasGoodClosing H (binding.Bound b) = Unit {0}
HasGoodClosing H (binding.Late t) = IsClosing H (place_of t.slot) t
HasGoodClosing H (binding.NodeGone t) = IsClosing H (place_of t.slot) t
HasGoodClosing H (binding.Duplicate t) = IsClosing H (place_of t.slot) t
HasGoodClosing H (binding.Mismatch t) = IsClosing H (place_of t.slot) t
HasGoodClosing H (binding.Memory t x) = IsReservation H t.request t

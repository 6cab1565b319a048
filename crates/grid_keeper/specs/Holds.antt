-- The tokens that are kept beside a hub.
use Rattle.std.specs.Prelude.{◌≡◌, ◌<◌, ℕ, ◌+◌, ◌*◌, Bool, true, not, ◌&&◌, nat_eq, List, Option, None, Some, IsSome}
use Rattle.std.specs.Ordering.{nat_cmp}
use Rattle.std.specs.BTreeMap.{get}
use Rattle.grid_types.specs.declared.entry.Entry.{Entry}
use Rattle.grid_types.specs.declared.names.SlotId.{SlotId}
use Rattle.grid_types.specs.Tokens.{Ticket, Reservation, Closing, ticket_of, reservation_of, is_good_ticket, is_good_reservation, is_good_closing}
use Rattle.grid_types.specs.Slots.{slot_eq}
use Rattle.grid_types.specs.Calls.{Call, Reply}
use Rattle.grid_types.specs.HandedIn.{hands_ticket, hands_reservation, hands_closing}
use Rattle.token_laws.specs.Gives.{gives_ticket, gives_reservation, gives_closing}
use Rattle.hub_core.specs.declared.answers.Enqueued.{Enqueued}
use Rattle.hub_core.specs.declared.answers.Enqueued.TheVariants as enqueued
use Rattle.hub_core.specs.declared.answers.Dispatched.{Dispatched}
use Rattle.hub_core.specs.declared.answers.Dispatched.TheVariants as dispatched
use Rattle.hub_core.specs.declared.answers.Ending.{Ending}
use Rattle.hub_core.specs.declared.answers.Ending.TheVariants as ending
use Rattle.hub_core.specs.declared.answers.Expiring.{Expiring}
use Rattle.hub_core.specs.declared.answers.Expiring.TheVariants as expiring
use Rattle.hub_core.specs.declared.answers.Polled.{Polled}
use Rattle.hub_core.specs.declared.answers.Polled.TheVariants as polled
use Rattle.hub_core.specs.declared.answers.Binding.{Binding}
use Rattle.hub_core.specs.declared.answers.Binding.TheVariants as binding
use Rattle.grid_keeper.specs.declared.left.Left.{Left}

-- a number for a slot
abbrev pub place_of : SlotId → ℕ
place_of s = s.node * 65_536 + s.index

-- a ticket of the request, good after H
abbrev pub IsTicket : List Entry → ℕ → Ticket → Type 0
IsTicket H r t = (t.request ≡ r) × (is_good_ticket H 0 t.request ≡ true) × (t ≡ ticket_of H t.request)

-- a reservation for the request, good after H
abbrev pub IsReservation : List Entry → ℕ → Reservation → Type 0
IsReservation H r t = (t.request ≡ r) × (is_good_reservation H 0 t.request t.slot ≡ true) × (t ≡ reservation_of H t.request t.slot)

-- a closing of the slot with the number, good after H
abbrev pub IsClosing : List Entry → ℕ → Closing → Type 0
IsClosing H p t = (place_of t.slot ≡ p) × (is_good_closing H 0 t.slot ≡ true)

-- after H each token is good, and stands under its own number
pub record Holds (H : List Entry) (left : Left) : Type 0 where
  pub tickets_good : (r : ℕ) (t : Ticket) → get nat_cmp left.tickets r ≡ Some t → IsTicket H r t
  pub reservations_good : (r : ℕ) (t : Reservation) → get nat_cmp left.reservations r ≡ Some t → IsReservation H r t
  pub closings_good : (p : ℕ) (t : Closing) → get nat_cmp left.closings p ≡ Some t → IsClosing H p t

-- the token that a call is handed is not among these
abbrev pub Spares : Call → Left → Type 0
Spares (Call.poll t) left = get nat_cmp left.tickets t.request ≡ None
Spares (Call.withdraw t) left = get nat_cmp left.tickets t.request ≡ None
Spares (Call.bind t x caps) left = get nat_cmp left.reservations t.request ≡ None
Spares (Call.fail t w) left = get nat_cmp left.reservations t.request ≡ None
Spares (Call.freed t) left = get nat_cmp left.closings (place_of t.slot) ≡ None
Spares call left = Unit {0}

-- the tokens of an answer are good after H
abbrev pub HasNewTicket : List Entry → Enqueued → Type 0
HasNewTicket H (enqueued.Queued t) = IsTicket H t.request t
HasNewTicket H answer = Unit {0}

abbrev pub HasReservation : List Entry → Dispatched → Type 0
HasReservation H (dispatched.Assigned t) = IsReservation H t.request t
HasReservation H answer = Unit {0}

abbrev pub HasEnded : List Entry → Ending → Type 0
HasEnded H (ending.Ended t) = IsClosing H (place_of t.slot) t
HasEnded H answer = Unit {0}

abbrev pub HasExpired : List Entry → Expiring → Type 0
HasExpired H (expiring.Expired t) = IsClosing H (place_of t.slot) t
HasExpired H answer = Unit {0}

abbrev pub HasGoodTicket : List Entry → Polled → Type 0
HasGoodTicket H (polled.NotYet t) = IsTicket H t.request t
HasGoodTicket H (polled.Yours t r) = IsTicket H t.request t × IsReservation H r.request r
HasGoodTicket H (polled.Settled o) = Unit {0}
HasGoodTicket H (polled.Memory t) = IsTicket H t.request t

abbrev pub HasGoodClosing : List Entry → Binding → Type 0
HasGoodClosing H (binding.Bound b) = Unit {0}
HasGoodClosing H (binding.Late t) = IsClosing H (place_of t.slot) t
HasGoodClosing H (binding.NodeGone t) = IsClosing H (place_of t.slot) t
HasGoodClosing H (binding.Duplicate t) = IsClosing H (place_of t.slot) t
HasGoodClosing H (binding.Mismatch t) = IsClosing H (place_of t.slot) t
HasGoodClosing H (binding.Memory t x) = IsReservation H t.request t

-- ---- which tokens are there

-- tokens, by what they are of
pub record Wanted : Type 0 where
  pub tickets : ℕ → Bool
  pub reservations : ℕ → SlotId → Bool
  pub closings : SlotId → Bool

-- those that are open after a history
abbrev pub open_after : List Entry → Wanted
open_after H = record {
  tickets = is_good_ticket H 0;
  reservations = is_good_reservation H 0;
  closings = is_good_closing H 0;
}

-- each of them is there; the number of a slot at its node has 16 bits
pub record HasAll (wanted : Wanted) (left : Left) : Type 0 where
  pub tickets : (r : ℕ) → wanted.tickets r ≡ true → IsSome (get nat_cmp left.tickets r)
  pub reservations : (r : ℕ) (s : SlotId) → wanted.reservations r s ≡ true →
      IsSome (get nat_cmp left.reservations r)
  pub closings : (s : SlotId) → s.index < 65_536 → wanted.closings s ≡ true →
      IsSome (get nat_cmp left.closings (place_of s))

-- each token that is open after the history is there
abbrev pub Complete : List Entry → Left → Type 0
Complete H left = HasAll (open_after H) left

-- just the tokens that are open after the history are there
pub record HoldsAll (H : List Entry) (left : Left) : Type 0 where
  pub holds : Holds H left
  pub complete : Complete H left

-- what is there stays there
abbrev pub Grows : Left → Left → Type 0
Grows old new = (wanted : Wanted) → HasAll wanted old → HasAll wanted new

-- all of them but one
abbrev pub but_ticket : ℕ → Wanted → Wanted
but_ticket request wanted = record {
  tickets = λ r. not (nat_eq request r) && wanted.tickets r;
  reservations = wanted.reservations;
  closings = wanted.closings;
}

abbrev pub but_reservation : ℕ → Wanted → Wanted
but_reservation request wanted = record {
  tickets = wanted.tickets;
  reservations = λ r s. not (nat_eq request r) && wanted.reservations r s;
  closings = wanted.closings;
}

abbrev pub but_closing : SlotId → Wanted → Wanted
but_closing slot wanted = record {
  tickets = wanted.tickets;
  reservations = wanted.reservations;
  closings = λ s. not (slot_eq slot s) && wanted.closings s;
}

-- the tokens of an answer are there
abbrev pub HasQueued : Left → Enqueued → Type 0
HasQueued left (enqueued.Queued t) = IsSome (get nat_cmp left.tickets t.request)
HasQueued left answer = Unit {0}

abbrev pub HasAssigned : Left → Dispatched → Type 0
HasAssigned left (dispatched.Assigned t) = IsSome (get nat_cmp left.reservations t.request)
HasAssigned left answer = Unit {0}

abbrev pub HasClosing : Left → Closing → Type 0
HasClosing left t = IsSome (get nat_cmp left.closings (place_of t.slot))

abbrev pub HasEndedOne : Left → Ending → Type 0
HasEndedOne left (ending.Ended t) = HasClosing left t
HasEndedOne left answer = Unit {0}

abbrev pub HasExpiredOne : Left → Expiring → Type 0
HasExpiredOne left (expiring.Expired t) = HasClosing left t
HasExpiredOne left answer = Unit {0}

abbrev pub HasPolled : Left → Polled → Type 0
HasPolled left (polled.NotYet t) = IsSome (get nat_cmp left.tickets t.request)
HasPolled left (polled.Yours t r) =
    IsSome (get nat_cmp left.tickets t.request)
    × IsSome (get nat_cmp left.reservations r.request)
HasPolled left (polled.Settled o) = Unit {0}
HasPolled left (polled.Memory t) = Unit {0}

abbrev pub HasBound : Left → Binding → Type 0
HasBound left (binding.Bound b) = Unit {0}
HasBound left (binding.Late t) = HasClosing left t
HasBound left (binding.NodeGone t) = HasClosing left t
HasBound left (binding.Duplicate t) = HasClosing left t
HasBound left (binding.Mismatch t) = HasClosing left t
HasBound left (binding.Memory r x) = Unit {0}

-- those of a call's tokens that it was not handed
abbrev pub spared : Call → Wanted → Wanted
spared call wanted = record {
  tickets = λ r. not (hands_ticket call r) && wanted.tickets r;
  reservations = λ r s. not (hands_reservation call r s) && wanted.reservations r s;
  closings = λ s. not (hands_closing call s) && wanted.closings s;
}

-- each token that a reply gives is there
pub record HasGiven (reply : Reply) (left : Left) : Type 0 where
  pub tickets : (r : ℕ) → gives_ticket reply r ≡ true → IsSome (get nat_cmp left.tickets r)
  pub reservations : (r : ℕ) (s : SlotId) → gives_reservation reply r s ≡ true →
      IsSome (get nat_cmp left.reservations r)
  pub closings : (s : SlotId) → gives_closing reply s ≡ true →
      IsSome (get nat_cmp left.closings (place_of s))

-- ---- tokens that are taken out one after the other

-- a ticket was taken out
pub record LostTicket (H : List Entry) (old new : Left) (t : Ticket) : Type 0 where
  pub good : IsTicket H t.request t
  pub holds : Holds H new
  pub gone : get nat_cmp new.tickets t.request ≡ None
  pub others : (wanted : Wanted) → HasAll wanted old → HasAll (but_ticket t.request wanted) new

-- a reservation was taken out
pub record LostReservation (H : List Entry) (old new : Left) (t : Reservation) : Type 0 where
  pub good : IsReservation H t.request t
  pub holds : Holds H new
  pub gone : get nat_cmp new.reservations t.request ≡ None
  pub others : (wanted : Wanted) → HasAll wanted old → HasAll (but_reservation t.request wanted) new

-- a closing was taken out
pub record LostClosing (H : List Entry) (old new : Left) (t : Closing) : Type 0 where
  pub good : IsClosing H (place_of t.slot) t
  pub holds : Holds H new
  pub gone : get nat_cmp new.closings (place_of t.slot) ≡ None
  pub others : (wanted : Wanted) → HasAll wanted old → HasAll (but_closing t.slot wanted) new

-- there is none to take out, and nothing has changed of the tokens that are there
pub record LostNothing (old new : Left) : Type 0 where
  pub stays : (H : List Entry) → Holds H old → Holds H new
  pub more : (wanted : Wanted) → HasAll wanted old → HasAll wanted new

-- one was taken out, if there is one
abbrev pub PopsTicket : Left → Option Ticket → Left → Type 0
PopsTicket old (Some t) new = (H : List Entry) → Holds H old → LostTicket H old new t
PopsTicket old None new = LostNothing old new × ((r : ℕ) → get nat_cmp new.tickets r ≡ None)

abbrev pub PopsReservation : Left → Option Reservation → Left → Type 0
PopsReservation old (Some t) new = (H : List Entry) → Holds H old → LostReservation H old new t
PopsReservation old None new =
    LostNothing old new × ((r : ℕ) → get nat_cmp new.reservations r ≡ None)

abbrev pub PopsClosing : Left → Option Closing → Left → Type 0
PopsClosing old (Some t) new = (H : List Entry) → Holds H old → LostClosing H old new t
PopsClosing old None new = LostNothing old new × ((p : ℕ) → get nat_cmp new.closings p ≡ None)

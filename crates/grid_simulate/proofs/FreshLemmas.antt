-- A new token is none of those that are kept.
use Rattle.std.proofs.Common.{◌≡◌, ℕ, zero, suc, ◌+◌, ◌-◌, ◌^◌, ◌<◌, Bool, true, false, ◌&&◌, ◌||◌, cond, List, [], ◌∷◌, ◌++◌, length, refl, sym, ap, subst, arith}
use Rattle.std.specs.Prelude.{Option, None, Some, is_some, option_map, nat_eq, nat_lt, nat_le, max, not}
use Rattle.std.specs.List.{list_any}
use Rattle.grid_types.specs.declared.capabilities.Cap.{Cap}
use Rattle.grid_types.specs.declared.config.HubConfig.{HubConfig}
use Rattle.grid_types.specs.declared.entry.Entry.{Entry}
use Rattle.grid_types.specs.declared.entry.Change.{Change}
use Rattle.grid_types.specs.declared.entry.Change.TheVariants as change
use Rattle.grid_types.specs.declared.entry.Outcome.{Outcome}
use Rattle.grid_types.specs.declared.entry.Outcome.TheVariants as outcome
use Rattle.grid_types.specs.declared.names.SlotId.{SlotId}
use Rattle.grid_types.specs.Lists.{when, or_else, with_last, numbers_from}
use Rattle.grid_types.specs.History.{clock, requests, request_told, next_request}
use Rattle.grid_types.specs.Requests.{Asked, asked_told, asked_of, is_taken, place, is_waiting, deadline_of, is_barred, outcome_of, unsettled, unsettled_bytes}
use Rattle.grid_types.specs.Slots.{Holder, free, held, busy, closing, holder, owner, is_free, is_held_by, slot_eq, load}
use Rattle.grid_types.specs.Nodes.{is_up, max_of}
use Rattle.grid_types.specs.Fit.{fits, has_sessions_left, matches_slot}
use Rattle.grid_types.specs.Choice.{Assignment, chosen}
use Rattle.grid_types.specs.Permitted.{is_caller, is_asker, is_supported, most_bytes, deadline_at}
use Rattle.grid_types.specs.Capabilities.{request_bytes}
use Rattle.grid_types.specs.Legal.{legal}
use Rattle.grid_types.specs.Laws.{ChosenFits}
use Rattle.grid_types.specs.OneMoreEntry.{NumberedOneByOne}
use Rattle.grid_types.specs.Tokens.{Ticket, Reservation, ticket_of, is_good_ticket, is_good_reservation}
use Rattle.grid_types.specs.Calls.{Call, Reply}
use Rattle.grid_types.specs.HubAnswers.{hub, says, makes, moment, dispatched, polled, polled_open, reserves, reserved}
use Rattle.grid_simulate.specs.Held.{Each, IsTicket, IsReservation, same_request, same_slot}
use Rattle.grid_simulate.proofs.ListLemmas.{any_left, any_last, each_more}

-- ---- tickets

asked_listed : (H : List Entry) (r : ℕ) → is_some (asked_of H r) ≡ true → list_any (nat_eq r) (requests H) ≡ true
asked_listed [] r h = absurd cc
asked_listed (e ∷ H) r h = by_change e.caller e.change h (asked_listed H r)
  where
    queued : (b : Bool) (q : ℕ) (a : Asked) → nat_eq q r ≡ b → is_some (or_else (when b a) (asked_of H r)) ≡ true → (is_some (asked_of H r) ≡ true → list_any (nat_eq r) (requests H) ≡ true) →
        list_any (nat_eq r) (requests H ++ q ∷ []) ≡ true
    queued true q a e h ih = any_last (nat_eq r) (requests H) q (grind arith)
    queued false q a e h ih = any_left (nat_eq r) (requests H) q (ih h)

    by_change : (k : ℕ) (ch : Change) → is_some (or_else (asked_told r k ch) (asked_of H r)) ≡ true → (is_some (asked_of H r) ≡ true → list_any (nat_eq r) (requests H) ≡ true) →
        list_any (nat_eq r) (with_last (requests H) (request_told ch)) ≡ true
    by_change k (change.Queued q choices deadline at) h ih = queued (nat_eq q r) q (record { choices = choices; deadline = deadline.0; caller = k }) refl h ih
    by_change k ch h ih = ih h

numbers_below : (f n r : ℕ) → list_any (nat_eq r) (numbers_from f n) ≡ true → r < f + n
numbers_below f zero r h = absurd cc
numbers_below f (suc n) r h = by_test (nat_eq r f) refl h (numbers_below (f + 1) n r)
  where
    by_test : (b : Bool) → nat_eq r f ≡ b → (b || list_any (nat_eq r) (numbers_from (f + 1) n)) ≡ true → (list_any (nat_eq r) (numbers_from (f + 1) n) ≡ true → r < f + 1 + n) → r < f + suc n
    by_test true e h ih = let same : r ≡ f = grind arith in omega (arith, same)
    by_test false e h ih = omega (arith, ih h)

asker_asked : (k : ℕ) (o : Option Asked) → is_caller k (option_map (λ a. a.caller) o) ≡ true → is_some o ≡ true
asker_asked k None h = absurd cc
asker_asked k (Some a) h = refl

and_first : (a b : Bool) → (a && b) ≡ true → a ≡ true
and_first true b h = refl
and_first false b h = h

-- the request of a good ticket has a number below the next one
good_below : (c : HubConfig) (H : List Entry) (r : ℕ) → NumberedOneByOne c → legal c H ≡ true → is_good_ticket H 0 r ≡ true → r < next_request c H
good_below c H r law l good =
    let asked : is_some (asked_of H r) ≡ true = asker_asked 0 (asked_of H r) (and_first (is_asker H 0 r) (not (is_taken H r)) good) in
    let listed : list_any (nat_eq r) (requests H) ≡ true = asked_listed H r asked in
    numbers_below c.first_request (length (requests H)) r (subst (λ (ns : List ℕ). list_any (nat_eq r) ns ≡ true) (law.of_requests H l) listed)

queued_of : (b1 b2 b3 : Bool) (count bytes : ℕ) (ch : Change) (u t : Ticket) →
    (cond b1 (says Reply.numbers_spent) (cond b2 (says Reply.unsupported) (cond b3 (says (Reply.queue_full count bytes)) (makes ch (Reply.queued u))))).reply ≡ Reply.queued t → u ≡ t
queued_of true b2 b3 count bytes ch u t h = absurd cc
queued_of false true b3 count bytes ch u t h = absurd cc
queued_of false false true count bytes ch u t h = absurd cc
queued_of false false false count bytes ch u t h = cc

-- a new request has the next number
queued_number : (c : HubConfig) (H : List Entry) (choices : List (List Cap)) (at : ℕ) (t : Ticket) → (hub c H 0 (Call.enqueue choices) at).reply ≡ Reply.queued t → t.request ≡ next_request c H
unfolding hub
queued_number c H choices at t h =
    let m = max at (clock H) in
    let same = queued_of (nat_le (2 ^ 64 - 1) (next_request c H)) (c.reject_unsupported && not (is_supported H choices))
    (nat_le c.queue_requests (length (unsettled H)) || nat_lt most_bytes (unsettled_bytes H + request_bytes choices)) (length (unsettled H)) (unsettled_bytes H)
    (change.Queued (next_request c H) choices (moment (deadline_at c choices m)) (moment m)) (record { request = next_request c H; deadline = deadline_at c choices m }) t h in
    sym (ap (λ (u : Ticket). u.request) same)

pub fresh_ticket : (c : HubConfig) (H : List Entry) (choices : List (List Cap)) (at : ℕ) (t : Ticket) (ts : List Ticket) → NumberedOneByOne c → legal c H ≡ true →
    (hub c H 0 (Call.enqueue choices) at).reply ≡ Reply.queued t → Each (IsTicket H) ts → Each (λ u. same_request u t ≡ false) ts
fresh_ticket c H choices at t ts law l h good = each_more (IsTicket H) (λ u. same_request u t ≡ false) ts one good
  where
    one : (u : Ticket) → IsTicket H u → same_request u t ≡ false
    one u is =
        let below = good_below c H u.request law l is.0 in
        let number = queued_number c H choices at t h in
        grind (arith, below, number)

-- ---- reservations

third : (b1 b2 b3 b4 b5 b6 b7 b8 : Bool) → (b1 && b2 && b3 && b4 && b5 && b6 && b7 && b8) ≡ true → b3 ≡ true
third b1 b2 true b4 b5 b6 b7 b8 h = refl
third true true false b4 b5 b6 b7 b8 h = h
third true false false b4 b5 b6 b7 b8 h = h
third false b2 false b4 b5 b6 b7 b8 h = h

fits_free : (H : List Entry) (r k : ℕ) (s : SlotId) (m : ℕ) → fits H r k s m ≡ true → is_free (holder H s) ≡ true
unfolding fits
fits_free H r k s m h =
    third (is_waiting (place H r)) (nat_lt m (deadline_of H r)) (is_free (holder H s)) (is_up H s.node) (not (is_barred H r s.node)) (nat_lt (load H s.node) (max_of H s.node))
    (has_sessions_left H s.node) (matches_slot H r k s) h

free_is : (h : Holder) → is_free h ≡ true → h ≡ free
free_is free e = refl
free_is (held q) e = absurd cc
free_is (busy x) e = absurd cc
free_is closing e = absurd cc

pub slot_eq_is : (s t : SlotId) → slot_eq s t ≡ true → s ≡ t
slot_eq_is s t h = grind arith

-- a held slot is not a free one
pub held_apart : (H : List Entry) (r : ℕ) (s t : SlotId) → is_good_reservation H 0 r s ≡ true → is_free (holder H t) ≡ true → slot_eq s t ≡ false
held_apart H r s t good is_empty = by_test (slot_eq s t) refl
  where
    by_test : (b : Bool) → slot_eq s t ≡ b → b ≡ false
    by_test false e = refl
    by_test true e =
        let same : s ≡ t = slot_eq_is s t e in
        let holds : is_held_by r (holder H s) ≡ true = and_first (is_held_by r (holder H s)) (is_caller 0 (owner H s)) good in
        let none : holder H s ≡ free = free_is (holder H s) (subst (λ (u : SlotId). is_free (holder H u) ≡ true) (sym same) is_empty) in
        let wrong : is_held_by r free ≡ true = subst (λ (h : Holder). is_held_by r h ≡ true) none holds in
        absurd cc

-- what is assigned has a slot that was free
assigned_free : (H : List Entry) (m : ℕ) (o : Option Assignment) (r : Reservation) → ChosenFits → chosen H m ≡ o → (dispatched H 0 m o).reply ≡ Reply.assigned r → is_free (holder H r.slot) ≡ true
assigned_free H m None r law e h = absurd cc
assigned_free H m (Some a) r law e h =
    let same : reserved H 0 m a ≡ r = one (reserved H 0 m a) r h in
    subst (λ (u : Reservation). is_free (holder H u.slot) ≡ true) same (fits_free H a.request a.choice a.slot m (law H m a e))
  where
    one : (u v : Reservation) → Reply.assigned u ≡ Reply.assigned v → u ≡ v
    one u v h = cc

pub fresh_assigned : (c : HubConfig) (H : List Entry) (at : ℕ) (r : Reservation) (rs : List Reservation) → ChosenFits →
    (hub c H 0 Call.dispatch at).reply ≡ Reply.assigned r → Each (IsReservation H) rs → Each (λ u. same_slot u r ≡ false) rs
unfolding hub
fresh_assigned c H at r rs law h good =
    let is_empty = assigned_free H (max at (clock H)) (chosen H (max at (clock H))) r law refl h in
    each_more (IsReservation H) (λ u. same_slot u r ≡ false) rs (λ u is. held_apart H u.request u.slot r.slot is.0 is_empty) good

-- ---- polls

yours_one : (u v : Ticket) (r s : Reservation) → Reply.yours u r ≡ Reply.yours v s → (u ≡ v) × (r ≡ s)
yours_one u v r s h = (cc, cc)

not_yet_one : (u v : Ticket) → Reply.not_yet u ≡ Reply.not_yet v → u ≡ v
not_yet_one u v h = cc

-- a poll that is answered with a reservation tells the ticket, and its slot was free
yours_by_request : (H : List Entry) (m r : ℕ) (a : Assignment) (u : Ticket) (s : Reservation) (b : Bool) → ChosenFits → chosen H m ≡ Some a →
    (cond b (makes (reserves m a) (Reply.yours (ticket_of H r) (reserved H 0 m a))) (says (Reply.not_yet (ticket_of H r)))).reply ≡ Reply.yours u s →
    (u ≡ ticket_of H r) × (is_free (holder H s.slot) ≡ true)
yours_by_request H m r a u s false law e h = absurd cc
yours_by_request H m r a u s true law e h =
    let same = yours_one (ticket_of H r) u (reserved H 0 m a) s h in
    (sym same.0, subst (λ (v : Reservation). is_free (holder H v.slot) ≡ true) same.1 (fits_free H a.request a.choice a.slot m (law H m a e)))

yours_by_choice : (H : List Entry) (m r : ℕ) (o : Option Assignment) (u : Ticket) (s : Reservation) → ChosenFits → chosen H m ≡ o → (polled_open H 0 r m o).reply ≡ Reply.yours u s →
    (u ≡ ticket_of H r) × (is_free (holder H s.slot) ≡ true)
yours_by_choice H m r None u s law e h = absurd cc
yours_by_choice H m r (Some a) u s law e h = yours_by_request H m r a u s (nat_eq a.request r) law e h

yours_by_time : (H : List Entry) (m r : ℕ) (b : Bool) (changes : List Change) (o : Outcome) (u : Ticket) (s : Reservation) → ChosenFits →
    (cond b (record { changes = changes; reply = Reply.settled o }) (polled_open H 0 r m (chosen H m))).reply ≡ Reply.yours u s → (u ≡ ticket_of H r) × (is_free (holder H s.slot) ≡ true)
yours_by_time H m r true changes o u s law h = absurd cc
yours_by_time H m r false changes o u s law h = yours_by_choice H m r (chosen H m) u s law refl h

yours_by_outcome : (H : List Entry) (m r : ℕ) (o : Option Outcome) (u : Ticket) (s : Reservation) → ChosenFits → (polled H 0 r m o).reply ≡ Reply.yours u s →
    (u ≡ ticket_of H r) × (is_free (holder H s.slot) ≡ true)
yours_by_outcome H m r (Some o) u s law h = absurd cc
yours_by_outcome H m r None u s law h =
    yours_by_time H m r (nat_le (deadline_of H r) m) (change.TimedOut r (moment m) ∷ change.Taken r (moment m) ∷ []) (outcome.TimedOut (moment (deadline_of H r))) u s law h

pub poll_yours : (c : HubConfig) (H : List Entry) (t : Ticket) (at : ℕ) (u : Ticket) (s : Reservation) → ChosenFits → (hub c H 0 (Call.poll t) at).reply ≡ Reply.yours u s →
    (u ≡ ticket_of H t.request) × (is_free (holder H s.slot) ≡ true)
unfolding hub
poll_yours c H t at u s law h = yours_by_outcome H (max at (clock H)) t.request (outcome_of H t.request) u s law h

-- one that is not yet answered tells the ticket
not_yet_by_request : (H : List Entry) (m r : ℕ) (a : Assignment) (u : Ticket) (b : Bool) →
    (cond b (makes (reserves m a) (Reply.yours (ticket_of H r) (reserved H 0 m a))) (says (Reply.not_yet (ticket_of H r)))).reply ≡ Reply.not_yet u → u ≡ ticket_of H r
not_yet_by_request H m r a u true h = absurd cc
not_yet_by_request H m r a u false h = sym (not_yet_one (ticket_of H r) u h)

not_yet_by_choice : (H : List Entry) (m r : ℕ) (o : Option Assignment) (u : Ticket) → (polled_open H 0 r m o).reply ≡ Reply.not_yet u → u ≡ ticket_of H r
not_yet_by_choice H m r None u h = sym (not_yet_one (ticket_of H r) u h)
not_yet_by_choice H m r (Some a) u h = not_yet_by_request H m r a u (nat_eq a.request r) h

not_yet_by_time : (H : List Entry) (m r : ℕ) (b : Bool) (changes : List Change) (o : Outcome) (u : Ticket) →
    (cond b (record { changes = changes; reply = Reply.settled o }) (polled_open H 0 r m (chosen H m))).reply ≡ Reply.not_yet u → u ≡ ticket_of H r
not_yet_by_time H m r true changes o u h = absurd cc
not_yet_by_time H m r false changes o u h = not_yet_by_choice H m r (chosen H m) u h

not_yet_by_outcome : (H : List Entry) (m r : ℕ) (o : Option Outcome) (u : Ticket) → (polled H 0 r m o).reply ≡ Reply.not_yet u → u ≡ ticket_of H r
not_yet_by_outcome H m r (Some o) u h = absurd cc
not_yet_by_outcome H m r None u h =
    not_yet_by_time H m r (nat_le (deadline_of H r) m) (change.TimedOut r (moment m) ∷ change.Taken r (moment m) ∷ []) (outcome.TimedOut (moment (deadline_of H r))) u h

pub poll_not_yet : (c : HubConfig) (H : List Entry) (t : Ticket) (at : ℕ) (u : Ticket) → (hub c H 0 (Call.poll t) at).reply ≡ Reply.not_yet u → u ≡ ticket_of H t.request
unfolding hub
poll_not_yet c H t at u h = not_yet_by_outcome H (max at (clock H)) t.request (outcome_of H t.request) u h

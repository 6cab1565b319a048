-- What a call of a hub leaves of the tokens that are kept beside it.
use Rattle.std.proofs.Common.{◌≡◌, ℕ, Bool, true, false, ◌&&◌, refl, subst, sym, ◌∙◌, inl, inr, List, arith}
use Rattle.std.specs.Prelude.{Option, None, Some, nat_eq}
use Rattle.std.specs.Ordering.{nat_cmp}
use Rattle.std.specs.BTreeMap.{get}
use Rattle.grid_types.specs.declared.entry.Entry.{Entry}
use Rattle.grid_types.specs.declared.config.HubConfig.{HubConfig}
use Rattle.grid_types.specs.declared.capabilities.Cap.{Cap}
use Rattle.grid_types.specs.declared.names.SlotId.{SlotId}
use Rattle.grid_types.specs.Slots.{slot_eq}
use Rattle.grid_types.specs.Tokens.{Ticket, Reservation, Closing, is_good_ticket, is_good_reservation}
use Rattle.grid_types.specs.declared.entry.FailWhy.{FailWhy}
use Rattle.grid_types.specs.Permitted.{is_start_failure}
use Rattle.grid_types.specs.Calls.{Call, Reply}
use Rattle.grid_types.specs.HandedIn.{hands_ticket, hands_reservation, hands_closing}
use Rattle.hub_core.specs.HubView.{HubView, past}
use Rattle.hub_core.specs.Answers.{Answers}
use Rattle.hub_core.specs.Serves.{Serves, MayCall}
use Rattle.hub_core.specs.Replies.{enqueued_reply, polled_reply, withdrawing_reply, dispatched_reply, binding_reply, ending_reply, expiring_reply, KeepsTicket, KeepsReservation}
use Rattle.hub_core.specs.declared.answers.Enqueued.{Enqueued}
use Rattle.hub_core.specs.declared.answers.Enqueued.TheVariants as enqueued
use Rattle.hub_core.specs.declared.answers.Dispatched.{Dispatched}
use Rattle.hub_core.specs.declared.answers.Dispatched.TheVariants as dispatched
use Rattle.hub_core.specs.declared.answers.Ending.{Ending}
use Rattle.hub_core.specs.declared.answers.Ending.TheVariants as ending
use Rattle.hub_core.specs.declared.answers.Expiring.{Expiring}
use Rattle.hub_core.specs.declared.answers.Expiring.TheVariants as expiring
use Rattle.hub_core.specs.declared.answers.Polled.{Polled}
use Rattle.hub_core.specs.declared.answers.Polled.TheVariants as polled
use Rattle.hub_core.specs.declared.answers.Withdrawing.{Withdrawing}
use Rattle.hub_core.specs.declared.answers.Withdrawing.TheVariants as withdrawing
use Rattle.hub_core.specs.declared.answers.Binding.{Binding}
use Rattle.hub_core.specs.declared.answers.Binding.TheVariants as binding
use Rattle.trial_desk.specs.declared.drawers.Drawers.{Drawers}
use Rattle.trial_desk.specs.Holds.{place_of, IsTicket, IsReservation, IsClosing, Holds, Spares, HasNewTicket, HasReservation, HasEnded, HasExpired, HasGoodTicket, HasOwnTicket, HasGoodClosing}

-- what is kept under a number is not under a number where nothing is kept
apart : {T : Type 0} (kept : ℕ → Option T) (q r : ℕ) (t : T) → kept q ≡ None → kept r ≡ Some t → nat_eq q r ≡ false
apart kept q r t none some = by_test (nat_eq q r) refl
  where
    by_test : (v : Bool) → nat_eq q r ≡ v → v ≡ false
    by_test true e = let same : q ≡ r = grind arith in absurd (cc)
    by_test false e = refl

slots-alike : (s t : SlotId) → slot_eq s t ≡ true → place_of s ≡ place_of t
slots-alike s t e = let node : s.node ≡ t.node = grind arith in let index : s.index ≡ t.index = grind arith in cc

ticket-spared : (call : Call) (d : Drawers) (r : ℕ) (t : Ticket) → Spares call d → get nat_cmp d.tickets r ≡ Some t → t.request ≡ r → hands_ticket call t.request ≡ false
ticket-spared (Call.poll u) d r t spares found same = rw same (apart (get nat_cmp d.tickets) u.request r t spares found)
ticket-spared (Call.withdraw u) d r t spares found same = rw same (apart (get nat_cmp d.tickets) u.request r t spares found)
ticket-spared call d r t spares found same = refl

reservation-spared : (call : Call) (d : Drawers) (r : ℕ) (t : Reservation) → Spares call d → get nat_cmp d.reservations r ≡ Some t → t.request ≡ r →
    hands_reservation call t.request t.slot ≡ false
reservation-spared (Call.bind u x caps) d r t spares found same = rw (same, apart (get nat_cmp d.reservations) u.request r t spares found) refl
reservation-spared (Call.fail u w) d r t spares found same = rw (same, apart (get nat_cmp d.reservations) u.request r t spares found) refl
reservation-spared call d r t spares found same = refl

closing-spared : (call : Call) (d : Drawers) (p : ℕ) (t : Closing) → Spares call d → get nat_cmp d.closings p ≡ Some t → place_of t.slot ≡ p → hands_closing call t.slot ≡ false
closing-spared (Call.freed u) d p t spares found same = by_test (slot_eq u.slot t.slot) refl
  where
    by_test : (v : Bool) → slot_eq u.slot t.slot ≡ v → v ≡ false
    by_test true e = let alike : place_of u.slot ≡ place_of t.slot = slots-alike u.slot t.slot e in absurd (cc)
    by_test false e = refl
closing-spared call d p t spares found same = refl

-- the tokens that the call was not handed are good still
pub served : (c : HubConfig) (H later : List Entry) (call : Call) (at : ℕ) (reply : Option Reply) (d : Drawers) → Serves c H 0 call at reply later → Spares call d → Holds H d → Holds later d
served c H later call at reply d serves spares held = record {
  tickets_good = λ r t found.
      let was = held.tickets_good r t found in
      let kept = serves.keeps_tickets 0 t.request was.1 (ticket-spared call d r t spares found was.0) in
      (was.0, kept.0, was.2 ∙ sym kept.1);
  reservations_good = λ r t found.
      let was = held.reservations_good r t found in
      let kept = serves.keeps_reservations 0 t.request t.slot was.1 (reservation-spared call d r t spares found was.0) in
      (was.0, kept.0, was.2 ∙ sym kept.1);
  closings_good = λ p t found.
      let was = held.closings_good p t found in
      (was.0, serves.keeps_closings 0 t.slot was.1 (closing-spared call d p t spares found was.0));
}

-- without memory nothing has changed
lack-stays : (c : HubConfig) (H later : List Entry) (call : Call) (at : ℕ) → Answers c H 0 call at None later → later ≡ H
lack-stays c H later call at (inl exact) = let e : None ≡ Some _ = exact.replies in absurd (cc)
lack-stays c H later call at (inr lack) = lack.stays

both : (a b : Bool) → (a && b) ≡ true → (a ≡ true) × (b ≡ true)
both true b e = (refl, e)
both false b e = absurd (cc)

pub may-poll : (H : List Entry) (r : ℕ) (t : Ticket) → IsTicket H r t → MayCall H 0 (Call.poll t)
may-poll H r t good = record { is_good = good.1; is_true = good.2 }

pub may-bind : (H : List Entry) (r : ℕ) (t : Reservation) (x : List ℕ) (caps : List Cap) → IsReservation H r t → MayCall H 0 (Call.bind t x caps)
may-bind H r t x caps good = record { is_good = good.1; is_true = good.2 }

-- the tokens of an answer are good
pub enqueued-good : (c : HubConfig) (H later : List Entry) (call : Call) (at : ℕ) (answer : Enqueued) → Serves c H 0 call at (enqueued_reply answer) later → HasNewTicket later answer
enqueued-good c H later call at (enqueued.Queued t) serves = (refl, serves.gives.0, serves.gives.1)
enqueued-good c H later call at answer serves = tt

pub dispatched-good : (c : HubConfig) (H later : List Entry) (call : Call) (at : ℕ) (answer : Dispatched) → Serves c H 0 call at (dispatched_reply answer) later → HasReservation later answer
dispatched-good c H later call at (dispatched.Assigned t) serves = (refl, serves.gives.0, serves.gives.1)
dispatched-good c H later call at answer serves = tt

pub ended-good : (c : HubConfig) (H later : List Entry) (call : Call) (at : ℕ) (answer : Ending) → Serves c H 0 call at (ending_reply answer) later → HasEnded later answer
ended-good c H later call at (ending.Ended t) serves = (refl, serves.gives.0)
ended-good c H later call at answer serves = tt

pub expired-good : (c : HubConfig) (H later : List Entry) (call : Call) (at : ℕ) (answer : Expiring) → Serves c H 0 call at (expiring_reply answer) later → HasExpired later answer
expired-good c H later call at (expiring.Expired t) serves = (refl, serves.gives.0)
expired-good c H later call at answer serves = tt

-- the tokens of the answer to a poll
pub polled-good : (c : HubConfig) (H later : List Entry) (r : ℕ) (t : Ticket) (at : ℕ) (answer : Polled) → Serves c H 0 (Call.poll t) at (polled_reply answer) later → KeepsTicket t answer → IsTicket H r t →
    HasGoodTicket later answer
polled-good c H later r t at (polled.NotYet u) serves back good = (refl, serves.gives.0, serves.gives.1)
polled-good c H later r t at (polled.Yours u s) serves back good =
    let each = both (is_good_ticket later 0 u.request) (is_good_reservation later 0 s.request s.slot) serves.gives.0 in
    ((refl, each.0, serves.gives.1.0), (refl, each.1, serves.gives.1.1))
polled-good c H later r t at (polled.Settled o) serves back good = tt
polled-good c H later r t at (polled.Memory u) serves back good =
    let stays : later ≡ H = lack-stays c H later (Call.poll t) at serves.answers in
    subst (λ (G : List Entry). IsTicket G u.request u) (sym stays) (subst (λ (v : Ticket). IsTicket H v.request v) (sym back) (refl, good.1, good.2))

-- of the answer where a request is given up
pub withdrawing-good : (c : HubConfig) (H later : List Entry) (call : Call) (at : ℕ) (answer : Withdrawing) → Serves c H 0 call at (withdrawing_reply answer) later → HasOwnTicket later answer
withdrawing-good c H later call at (withdrawing.NotYet u) serves = (refl, serves.gives.0, serves.gives.1)
withdrawing-good c H later call at answer serves = tt

-- and of the answer to a bind
pub bound-good : (c : HubConfig) (H later : List Entry) (r : ℕ) (t : Reservation) (x : List ℕ) (caps : List Cap) (at : ℕ) (answer : Binding) →
    Serves c H 0 (Call.bind t x caps) at (binding_reply answer) later → KeepsReservation t x answer → IsReservation H r t → HasGoodClosing later answer
bound-good c H later r t x caps at (binding.Bound b) serves back good = tt
bound-good c H later r t x caps at (binding.Late u) serves back good = (refl, serves.gives.0)
bound-good c H later r t x caps at (binding.NodeGone u) serves back good = (refl, serves.gives.0)
bound-good c H later r t x caps at (binding.Duplicate u) serves back good = (refl, serves.gives.0)
bound-good c H later r t x caps at (binding.Mismatch u) serves back good = (refl, serves.gives.0)
bound-good c H later r t x caps at (binding.Memory u y) serves back good =
    let stays : later ≡ H = lack-stays c H later (Call.bind t x caps) at serves.answers in
    subst (λ (G : List Entry). IsReservation G u.request u) (sym stays) (subst (λ (v : Reservation). IsReservation H v.request v) (sym back.0) (refl, good.1, good.2))

-- room in the journal changes nothing of it
pub roomy : (old new : HubView) (d : Drawers) → new ≡ record old { room = true } → Holds (past old) d → Holds (past new) d
roomy old new d made held = subst (λ (h : HubView). Holds (past h) d) (sym made) held

-- what is not kept under its number is not kept under the number that it stood under
pub absent : {T : Type 0} (kept : ℕ → Option T) (q r : ℕ) → q ≡ r → kept r ≡ None → kept q ≡ None
absent kept q r same none = rw same none

pub may-fail : (H : List Entry) (r : ℕ) (t : Reservation) (w : FailWhy) → IsReservation H r t → is_start_failure w ≡ true → MayCall H 0 (Call.fail t w)
may-fail H r t w good cause = record { is_good = rw (good.1, cause) refl; is_true = good.2 }

pub may-free : (H : List Entry) (p : ℕ) (t : Closing) → IsClosing H p t → MayCall H 0 (Call.freed t)
may-free H p t good = record { is_good = good.1; is_true = tt }

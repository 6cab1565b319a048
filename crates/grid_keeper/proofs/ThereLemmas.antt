-- That no open token is missing in the table after a call.
use Rattle.std.proofs.Common.{◌≡◌, ◌⊎◌, ℕ, ◌<◌, Bool, true, false, not, ◌&&◌, refl, sym, subst, ◌∙◌, inl, inr, List, arith}
use Rattle.std.specs.Prelude.{Option, None, Some, IsSome, nat_eq}
use Rattle.std.specs.Ordering.{nat_cmp}
use Rattle.std.specs.BTreeMap.{get}
use Rattle.grid_types.specs.declared.entry.Entry.{Entry}
use Rattle.grid_types.specs.declared.config.HubConfig.{HubConfig}
use Rattle.grid_types.specs.declared.names.SlotId.{SlotId}
use Rattle.grid_types.specs.declared.capabilities.Cap.{Cap}
use Rattle.grid_types.specs.declared.entry.FailWhy.{FailWhy}
use Rattle.grid_types.specs.Slots.{slot_eq, holder, owner, is_held_by}
use Rattle.grid_types.specs.Permitted.{is_caller}
use Rattle.grid_types.specs.HistoryLaws.{Known, laws}
use Rattle.grid_types.specs.Legal.{legal}
use Rattle.grid_types.specs.Tokens.{is_good_ticket, is_good_reservation, is_good_closing, Ticket, Reservation, Closing}
use Rattle.grid_types.specs.Calls.{Call, Reply}
use Rattle.grid_types.specs.HandedIn.{hands_ticket, hands_reservation, hands_closing}
use Rattle.grid_types.specs.HubAnswers.{hub}
use Rattle.token_laws.specs.Gives.{TokensComeFromReplies, gives_ticket, gives_reservation, gives_closing}
use Rattle.hub_core.specs.Answers.{Answers}
use Rattle.hub_core.specs.Replies.{registering_reply, beating_reply, draining_reply, removal_reply, touching_reply, failing_reply, enqueued_reply, polled_reply, dispatched_reply, binding_reply, ending_reply, expiring_reply}
use Rattle.hub_core.specs.declared.answers.Registering.{Registering}
use Rattle.hub_core.specs.declared.answers.Registering.TheVariants as registering
use Rattle.hub_core.specs.declared.answers.Beating.{Beating}
use Rattle.hub_core.specs.declared.answers.Beating.TheVariants as beating
use Rattle.hub_core.specs.declared.answers.Draining.{Draining}
use Rattle.hub_core.specs.declared.answers.Draining.TheVariants as draining
use Rattle.hub_core.specs.declared.answers.Removal.{Removal}
use Rattle.hub_core.specs.declared.answers.Removal.TheVariants as removal
use Rattle.hub_core.specs.declared.answers.Touching.{Touching}
use Rattle.hub_core.specs.declared.answers.Touching.TheVariants as touching
use Rattle.hub_core.specs.declared.answers.Failing.{Failing}
use Rattle.hub_core.specs.declared.answers.Failing.TheVariants as failing
use Rattle.hub_core.specs.declared.answers.Enqueued.{Enqueued}
use Rattle.hub_core.specs.declared.answers.Enqueued.TheVariants as enqueued
use Rattle.hub_core.specs.declared.answers.Dispatched.{Dispatched}
use Rattle.hub_core.specs.declared.answers.Dispatched.TheVariants as dispatched
use Rattle.hub_core.specs.declared.answers.Ending.{Ending}
use Rattle.hub_core.specs.declared.answers.Ending.TheVariants as ending
use Rattle.hub_core.specs.declared.answers.Expiring.{Expiring}
use Rattle.hub_core.specs.declared.answers.Expiring.TheVariants as expiring
use Rattle.hub_core.specs.declared.answers.Polled.{Polled}
use Rattle.hub_core.specs.declared.answers.Polled.TheVariants as polled
use Rattle.hub_core.specs.declared.answers.Binding.{Binding}
use Rattle.hub_core.specs.declared.answers.Binding.TheVariants as binding
use Rattle.grid_keeper.specs.declared.left.Left.{Left}
use Rattle.grid_keeper.specs.Holds.{place_of, open_after, spared, but_ticket, but_reservation, but_closing, HasAll, HasGiven, Complete, HasQueued, HasAssigned, HasClosing, HasEndedOne, HasExpiredOne, HasPolled, HasBound}

-- ---- tokens of a reply

-- each token that the reply gives, if there is one, is there
abbrev pub HasAnswer : Option Reply → Left → Type 0
HasAnswer None left = Unit {0}
HasAnswer (Some reply) left = HasGiven reply left

-- a reply that gives none
none_given : (reply : Reply) (left : Left) → ((r : ℕ) → gives_ticket reply r ≡ false) → ((r : ℕ) (s : SlotId) → gives_reservation reply r s ≡ false) → ((s : SlotId) → gives_closing reply s ≡ false) → HasGiven reply left
none_given reply left tickets reservations closings = record {
  tickets = λ r e. absurd (differs (gives_ticket reply r) e (tickets r));
  reservations = λ r s e. absurd (differs (gives_reservation reply r s) e (reservations r s));
  closings = λ s e. absurd (differs (gives_closing reply s) e (closings s));
}
  where
    differs : (b : Bool) → b ≡ true → b ≡ false → ⊥
    differs b x y = absurd (cc)

quiet : (reply : Reply) (left : Left) → ((r : ℕ) → gives_ticket reply r ≡ false) → ((r : ℕ) (s : SlotId) → gives_reservation reply r s ≡ false) → ((s : SlotId) → gives_closing reply s ≡ false) → HasAnswer (Some reply) left
quiet reply left tickets reservations closings = none_given reply left tickets reservations closings

pub registering-given : (a : Registering) (left : Left) → HasAnswer (registering_reply a) left
registering-given (registering.Registered n) left = quiet (Reply.registered n) left (λ r. refl) (λ r s. refl) (λ s. refl)
registering-given (registering.NameTaken n) left = quiet (Reply.name_taken n) left (λ r. refl) (λ r s. refl) (λ s. refl)
registering-given (registering.NodesFull n) left = quiet (Reply.nodes_full n) left (λ r. refl) (λ r s. refl) (λ s. refl)
registering-given registering.NumbersSpent left = quiet Reply.numbers_spent left (λ r. refl) (λ r s. refl) (λ s. refl)
registering-given (registering.Memory node) left = tt

pub beating-given : (a : Beating) (left : Left) → HasAnswer (beating_reply a) left
beating-given beating.Beaten left = quiet Reply.beaten left (λ r. refl) (λ r s. refl) (λ s. refl)
beating-given beating.NoNode left = quiet Reply.no_node left (λ r. refl) (λ r s. refl) (λ s. refl)

pub draining-given : (a : Draining) (left : Left) → HasAnswer (draining_reply a) left
draining-given draining.Draining left = quiet Reply.draining left (λ r. refl) (λ r s. refl) (λ s. refl)
draining-given draining.NoNode left = quiet Reply.no_node left (λ r. refl) (λ r s. refl) (λ s. refl)

pub removal-given : (a : Removal) (left : Left) → HasAnswer (removal_reply a) left
removal-given removal.Removed left = quiet Reply.removed left (λ r. refl) (λ r s. refl) (λ s. refl)
removal-given removal.NoNode left = quiet Reply.no_node left (λ r. refl) (λ r s. refl) (λ s. refl)

pub touching-given : (a : Touching) (left : Left) → HasAnswer (touching_reply a) left
touching-given touching.Touched left = quiet Reply.touched left (λ r. refl) (λ r s. refl) (λ s. refl)
touching-given touching.NoSession left = quiet Reply.no_session left (λ r. refl) (λ r s. refl) (λ s. refl)

pub failing-given : (a : Failing) (left : Left) → HasAnswer (failing_reply a) left
failing-given failing.Again left = quiet Reply.failed_again left (λ r. refl) (λ r s. refl) (λ s. refl)
failing-given failing.Refused left = quiet Reply.failed_refused left (λ r. refl) (λ r s. refl) (λ s. refl)
failing-given failing.Late left = quiet Reply.failed_late left (λ r. refl) (λ r s. refl) (λ s. refl)

pub swept-given : (a b c d : ℕ) (left : Left) → HasAnswer (Some (Reply.swept a b c d)) left
swept-given a b c d left = quiet (Reply.swept a b c d) left (λ r. refl) (λ r s. refl) (λ s. refl)

pub cleared-given : (n : ℕ) (left : Left) → HasAnswer (Some (Reply.cleared n)) left
cleared-given n left = quiet (Reply.cleared n) left (λ r. refl) (λ r s. refl) (λ s. refl)

pub freed-given : (left : Left) → HasAnswer (Some Reply.is_freed) left
freed-given left = quiet Reply.is_freed left (λ r. refl) (λ r s. refl) (λ s. refl)

same-number : (m n : ℕ) → nat_eq m n ≡ true → m ≡ n
same-number m n e = grind (arith, e)

-- the ticket's own number
ticket-there : (left : Left) (q r : ℕ) → nat_eq q r ≡ true → IsSome (get nat_cmp left.tickets q) → IsSome (get nat_cmp left.tickets r)
ticket-there left q r e there = subst (λ (n : ℕ). IsSome (get nat_cmp left.tickets n)) (same-number q r e) there

both : (a b : Bool) → (a && b) ≡ true → (a ≡ true) × (b ≡ true)
both true b e = (refl, e)
both false b e = absurd (cc)

reservation-there : (left : Left) (q r : ℕ) (t s : SlotId) → (nat_eq q r && slot_eq t s) ≡ true → IsSome (get nat_cmp left.reservations q) → IsSome (get nat_cmp left.reservations r)
reservation-there left q r t s e there = subst (λ (n : ℕ). IsSome (get nat_cmp left.reservations n)) (same-number q r (both (nat_eq q r) (slot_eq t s) e).0) there

slots-alike : (s t : SlotId) → slot_eq s t ≡ true → place_of s ≡ place_of t
slots-alike s t e = let node : s.node ≡ t.node = grind arith in let index : s.index ≡ t.index = grind arith in cc

closing-there : (left : Left) (t s : SlotId) → slot_eq t s ≡ true → IsSome (get nat_cmp left.closings (place_of t)) → IsSome (get nat_cmp left.closings (place_of s))
closing-there left t s e there = subst (λ (n : ℕ). IsSome (get nat_cmp left.closings n)) (slots-alike t s e) there

no_token : {X : Type 0} → false ≡ true → X
no_token e = absurd (cc)

pub enqueued-given : (a : Enqueued) (left : Left) → HasQueued left a → HasAnswer (enqueued_reply a) left
enqueued-given (enqueued.Queued t) left has = record { tickets = λ r e. ticket-there left t.request r e has; reservations = λ r s e. no_token e; closings = λ s e. no_token e }
enqueued-given enqueued.Unsupported left has = quiet Reply.unsupported left (λ r. refl) (λ r s. refl) (λ s. refl)
enqueued-given (enqueued.QueueFull count bytes) left has = quiet (Reply.queue_full count bytes) left (λ r. refl) (λ r s. refl) (λ s. refl)
enqueued-given enqueued.NumbersSpent left has = quiet Reply.numbers_spent left (λ r. refl) (λ r s. refl) (λ s. refl)
enqueued-given enqueued.Memory left has = tt

pub dispatched-given : (a : Dispatched) (left : Left) → HasAssigned left a → HasAnswer (dispatched_reply a) left
dispatched-given (dispatched.Assigned t) left has = record { tickets = λ r e. no_token e; reservations = λ r s e. reservation-there left t.request r t.slot s e has; closings = λ s e. no_token e }
dispatched-given dispatched.Nothing left has = quiet Reply.nothing left (λ r. refl) (λ r s. refl) (λ s. refl)
dispatched-given dispatched.Memory left has = tt

pub polled-given : (a : Polled) (left : Left) → HasPolled left a → HasAnswer (polled_reply a) left
polled-given (polled.NotYet t) left has = record { tickets = λ r e. ticket-there left t.request r e has; reservations = λ r s e. no_token e; closings = λ s e. no_token e }
polled-given (polled.Yours t u) left has = record {
  tickets = λ r e. ticket-there left t.request r e has.0;
  reservations = λ r s e. reservation-there left u.request r u.slot s e has.1;
  closings = λ s e. no_token e;
}
polled-given (polled.Settled o) left has = quiet (Reply.settled o) left (λ r. refl) (λ r s. refl) (λ s. refl)
polled-given (polled.Memory t) left has = tt

-- a reply that gives the closing
closes : (reply : Reply) (t : Closing) (left : Left) → ((r : ℕ) → gives_ticket reply r ≡ false) → ((r : ℕ) (s : SlotId) → gives_reservation reply r s ≡ false)
    → ((s : SlotId) → gives_closing reply s ≡ slot_eq t.slot s) → HasClosing left t → HasAnswer (Some reply) left
closes reply t left tickets reservations gives has = record {
  tickets = λ r e. no_token (sym (tickets r) ∙ e);
  reservations = λ r s e. no_token (sym (reservations r s) ∙ e);
  closings = λ s e. closing-there left t.slot s (sym (gives s) ∙ e) has;
}

pub ended-given : (a : Ending) (left : Left) → HasEndedOne left a → HasAnswer (ending_reply a) left
ended-given (ending.Ended t) left has = closes (Reply.ended t) t left (λ r. refl) (λ r s. refl) (λ s. refl) has
ended-given ending.NoSession left has = quiet Reply.no_session left (λ r. refl) (λ r s. refl) (λ s. refl)

pub expired-given : (a : Expiring) (left : Left) → HasExpiredOne left a → HasAnswer (expiring_reply a) left
expired-given (expiring.Expired t) left has = closes (Reply.expired t) t left (λ r. refl) (λ r s. refl) (λ s. refl) has
expired-given expiring.Nothing left has = quiet Reply.nothing left (λ r. refl) (λ r s. refl) (λ s. refl)

pub bound-given : (a : Binding) (left : Left) → HasBound left a → HasAnswer (binding_reply a) left
bound-given (binding.Bound b) left has = quiet (Reply.bound b) left (λ r. refl) (λ r s. refl) (λ s. refl)
bound-given (binding.Late t) left has = closes (Reply.late t) t left (λ r. refl) (λ r s. refl) (λ s. refl) has
bound-given (binding.NodeGone t) left has = closes (Reply.node_gone t) t left (λ r. refl) (λ r s. refl) (λ s. refl) has
bound-given (binding.Duplicate t) left has = closes (Reply.duplicate t) t left (λ r. refl) (λ r s. refl) (λ s. refl) has
bound-given (binding.Mismatch t) left has = closes (Reply.mismatch t) t left (λ r. refl) (λ r s. refl) (λ s. refl) has
bound-given (binding.Memory t x) left has = tt

-- ---- after a call

one_value : {X : Type 0} (a b : X) → Some a ≡ Some b → a ≡ b
one_value a b e = cc

spared_too : (handed good : Bool) → handed ≡ false → good ≡ true → (not handed && good) ≡ true
spared_too handed good e g = rw (e, g) refl

pub all_there : TokensComeFromReplies → (c : HubConfig) (H later : List Entry) (call : Call) (at : ℕ) (reply : Option Reply) (left : Left) → legal c H ≡ true → Answers c H 0 call at reply later → IsSome reply
    → HasAll (spared call (open_after H)) left → HasAnswer reply left → Complete later left
all_there proved c H later call at None left is_legal answers some spares given = absurd (cc some)
all_there proved c H later call at (Some reply) left is_legal (inr lack) some spares given = absurd (cc lack.silent)
all_there proved c H later call at (Some reply) left is_legal (inl exact) some spares given =
    let same : reply ≡ (hub c H 0 call at).reply = one_value reply (hub c H 0 call at).reply exact.replies in
    let gives : HasGiven (hub c H 0 call at).reply left = subst (λ (a : Reply). HasGiven a left) same given in
    record {
      tickets = λ r good. of_ticket gives r (proved.tickets c H 0 call at r (subst (λ (L : List Entry). is_good_ticket L 0 r ≡ true) exact.goes_on good));
      reservations = λ r s good. of_reservation gives r s (proved.reservations c H 0 call at r s (subst (λ (L : List Entry). is_good_reservation L 0 r s ≡ true) exact.goes_on good));
      closings = λ s few good. of_closing gives s few (proved.closings c H 0 call at s is_legal (subst (λ (L : List Entry). is_good_closing L 0 s ≡ true) exact.goes_on good));
    }
  where
    of_ticket : HasGiven (hub c H 0 call at).reply left → (r : ℕ) → ((is_good_ticket H 0 r ≡ true) × (hands_ticket call r ≡ false)) ⊎ (gives_ticket (hub c H 0 call at).reply r ≡ true) → IsSome (get nat_cmp left.tickets r)
    of_ticket gives r (inl was) = spares.tickets r (spared_too (hands_ticket call r) (is_good_ticket H 0 r) was.1 was.0)
    of_ticket gives r (inr given) = gives.tickets r given

    of_reservation : HasGiven (hub c H 0 call at).reply left → (r : ℕ) (s : SlotId) → ((is_good_reservation H 0 r s ≡ true) × (hands_reservation call r s ≡ false)) ⊎ (gives_reservation (hub c H 0 call at).reply r s ≡ true)
        → IsSome (get nat_cmp left.reservations r)
    of_reservation gives r s (inl was) = spares.reservations r s (spared_too (hands_reservation call r s) (is_good_reservation H 0 r s) was.1 was.0)
    of_reservation gives r s (inr given) = gives.reservations r s given

    of_closing : HasGiven (hub c H 0 call at).reply left → (s : SlotId) → s.index < 65_536 → ((is_good_closing H 0 s ≡ true) × (hands_closing call s ≡ false)) ⊎ (gives_closing (hub c H 0 call at).reply s ≡ true)
        → IsSome (get nat_cmp left.closings (place_of s))
    of_closing gives s few (inl was) = spares.closings s few (spared_too (hands_closing call s) (is_good_closing H 0 s) was.1 was.0)
    of_closing gives s few (inr given) = gives.closings s given

-- ---- what is left of the tokens when one was taken out

handed_not : (handed good : Bool) → (not handed && good) ≡ true → (handed ≡ false) × (good ≡ true)
handed_not true good e = absurd (cc e)
handed_not false good e = (refl, e)

pub poll_spared : (H : List Entry) (left : Left) (t : Ticket) (request : ℕ) → t.request ≡ request → HasAll (but_ticket request (open_after H)) left → HasAll (spared (Call.poll t) (open_after H)) left
poll_spared H left t request same all =
    let there : HasAll (but_ticket t.request (open_after H)) left = subst (λ (n : ℕ). HasAll (but_ticket n (open_after H)) left) (sym same) all in
    record { tickets = there.tickets; reservations = there.reservations; closings = there.closings }

pub freed_spared : (H : List Entry) (left : Left) (t : Closing) (slot : SlotId) → t.slot ≡ slot → HasAll (but_closing slot (open_after H)) left → HasAll (spared (Call.freed t) (open_after H)) left
freed_spared H left t slot same all =
    let there : HasAll (but_closing t.slot (open_after H)) left = subst (λ (s : SlotId). HasAll (but_closing s (open_after H)) left) (sym same) all in
    record { tickets = there.tickets; reservations = there.reservations; closings = there.closings }

-- a request holds one slot
pub one_slot : Known → (c : HubConfig) (H : List Entry) (r : ℕ) (s t : SlotId) → legal c H ≡ true → is_good_reservation H 0 r s ≡ true → is_good_reservation H 0 r t ≡ true → s ≡ t
one_slot proved c H r s t is_legal first second =
    ((laws proved).holds-one c H is_legal).one s t r
    ((laws proved).held-is r (holder H s) (both (is_held_by r (holder H s)) (is_caller 0 (owner H s)) first).0)
    ((laws proved).held-is r (holder H t) (both (is_held_by r (holder H t)) (is_caller 0 (owner H t)) second).0)

pub slot_same : (s : SlotId) → slot_eq s s ≡ true
slot_same s = both_true (nat_eq s.node s.node) (nat_eq s.index s.index) (number_same s.node) (number_same s.index)
  where
    number_same : (n : ℕ) → nat_eq n n ≡ true
    number_same n = grind arith

    both_true : (a b : Bool) → a ≡ true → b ≡ true → (a && b) ≡ true
    both_true a b x y = cc

-- a reservation that was not handed in is of another request
other_request : Known → (c : HubConfig) (H : List Entry) (t : Reservation) (r : ℕ) (s : SlotId) (same : Bool) → legal c H ≡ true → is_good_reservation H 0 t.request t.slot ≡ true → nat_eq t.request r ≡ same
    → (same && slot_eq t.slot s) ≡ false → is_good_reservation H 0 r s ≡ true → same ≡ false
other_request proved c H t r s false is_legal mine e apart good = refl
other_request proved c H t r s true is_legal mine e apart good =
    let request : t.request ≡ r = same-number t.request r e in
    let slot : t.slot ≡ s = one_slot proved c H r t.slot s is_legal (subst (λ (n : ℕ). is_good_reservation H 0 n t.slot ≡ true) request mine) good in
    let alike : slot_eq t.slot s ≡ true = subst (λ (u : SlotId). slot_eq t.slot u ≡ true) slot (slot_same t.slot) in
    absurd (cc)

reservation_spared : Known → (c : HubConfig) (H : List Entry) (left : Left) (t : Reservation) → legal c H ≡ true → is_good_reservation H 0 t.request t.slot ≡ true → HasAll (but_reservation t.request (open_after H)) left
    → (r : ℕ) (s : SlotId) → (not (nat_eq t.request r && slot_eq t.slot s) && is_good_reservation H 0 r s) ≡ true → IsSome (get nat_cmp left.reservations r)
reservation_spared proved c H left t is_legal mine all r s e =
    let apart = handed_not (nat_eq t.request r && slot_eq t.slot s) (is_good_reservation H 0 r s) e in
    all.reservations r s (spared_too (nat_eq t.request r) (is_good_reservation H 0 r s) (other_request proved c H t r s (nat_eq t.request r) is_legal mine refl apart.0 apart.1) apart.1)

but_own : (H : List Entry) (left : Left) (t : Reservation) (request : ℕ) → t.request ≡ request → HasAll (but_reservation request (open_after H)) left → HasAll (but_reservation t.request (open_after H)) left
but_own H left t request same all = subst (λ (n : ℕ). HasAll (but_reservation n (open_after H)) left) (sym same) all

pub bind_spared : Known → (c : HubConfig) (H : List Entry) (left : Left) (t : Reservation) (x : List ℕ) (caps : List Cap) (request : ℕ) → legal c H ≡ true → is_good_reservation H 0 t.request t.slot ≡ true → t.request ≡ request
    → HasAll (but_reservation request (open_after H)) left → HasAll (spared (Call.bind t x caps) (open_after H)) left
bind_spared proved c H left t x caps request is_legal mine same all = record {
  tickets = all.tickets;
  reservations = reservation_spared proved c H left t is_legal mine (but_own H left t request same all);
  closings = all.closings;
}

pub fail_spared : Known → (c : HubConfig) (H : List Entry) (left : Left) (t : Reservation) (w : FailWhy) (request : ℕ) → legal c H ≡ true → is_good_reservation H 0 t.request t.slot ≡ true → t.request ≡ request
    → HasAll (but_reservation request (open_after H)) left → HasAll (spared (Call.fail t w) (open_after H)) left
fail_spared proved c H left t w request is_legal mine same all = record {
  tickets = all.tickets;
  reservations = reservation_spared proved c H left t is_legal mine (but_own H left t request same all);
  closings = all.closings;
}

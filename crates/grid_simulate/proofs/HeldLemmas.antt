-- What a call of the hub leaves of the tokens that are kept.
use Rattle.std.proofs.Common.{◌≡◌, ℕ, Bool, true, false, ◌&&◌, inl, inr, List, [], ◌∷◌, ◌++◌, refl, sym, ap, subst, ◌∙◌, arith}
use Rattle.std.specs.Prelude.{Option, None, Some, nat_eq}
use Rattle.std.specs.List.{slice_get, remove, insert}
use Rattle.grid_types.specs.declared.capabilities.Cap.{Cap}
use Rattle.grid_types.specs.declared.config.HubConfig.{HubConfig}
use Rattle.grid_types.specs.declared.entry.Entry.{Entry}
use Rattle.grid_types.specs.declared.names.SlotId.{SlotId}
use Rattle.grid_types.specs.Legal.{legal}
use Rattle.grid_types.specs.Laws.{ChosenFits}
use Rattle.grid_types.specs.OneMoreEntry.{NumberedOneByOne}
use Rattle.grid_types.specs.Slots.{slot_eq}
use Rattle.grid_types.specs.Tokens.{Ticket, Reservation, Closing, ticket_of, reservation_of, is_good_ticket, is_good_reservation, is_good_closing}
use Rattle.grid_types.specs.Calls.{Call, Reply}
use Rattle.grid_types.specs.HandedIn.{hands_ticket, hands_reservation}
use Rattle.grid_types.specs.HubAnswers.{hub, after_call}
use Rattle.hub_core.specs.Answers.{Answers}
use Rattle.hub_core.specs.Serves.{Serves, MayCall, GivesGood}
use Rattle.hub_core.specs.HubView.{HubView, past, ServesLocally}
use Rattle.grid_simulate.specs.World.{simulated_config}
use Rattle.grid_simulate.specs.Held.{Each, Apart, IsTicket, IsReservation, same_request, same_slot, AreHeld}
use Rattle.grid_simulate.proofs.ListLemmas.{each_all, each_more, each_push, each_at, each_removed, each_inserted, apart_removed, apart_push, apart_from, put_back}
use Rattle.grid_simulate.proofs.FreshLemmas.{slot_eq_is, fresh_ticket, fresh_assigned, held_apart, poll_yours, poll_not_yet}

-- ---- what was answered

some_reply : (a b : Reply) → Some a ≡ Some b → a ≡ b
some_reply a b h = cc

none_some : (a : Reply) → Some a ≡ None → ⊥
none_some a h = cc

-- a call that is answered is answered as by the hub of one thread
pub record Exact (old : HubView) (call : Call) (at : ℕ) (reply : Reply) (new : HubView) : Type 0 where
  pub config : new.config ≡ simulated_config
  pub replies : (hub simulated_config (past old) 0 call at).reply ≡ reply
  pub goes_on : past new ≡ after_call simulated_config (past old) 0 call at

exact_by : (c : HubConfig) (H later : List Entry) (call : Call) (at : ℕ) (reply : Reply) → Answers c H 0 call at (Some reply) later →
    ((hub c H 0 call at).reply ≡ reply) × (later ≡ after_call c H 0 call at)
exact_by c H later call at reply (inl exact) = (sym (some_reply reply (hub c H 0 call at).reply exact.replies), exact.goes_on)
exact_by c H later call at reply (inr lack) = absurd (none_some reply lack.silent)

pub exact : (old new : HubView) (call : Call) (at : ℕ) (o : Option Reply) (reply : Reply) → old.config ≡ simulated_config → o ≡ Some reply → ServesLocally old call at o new → Exact old call at reply new
exact old new call at o reply config e serves =
    let answers : Answers old.config (past old) 0 call at (Some reply) (past new) = subst (λ (p : Option Reply). Answers old.config (past old) 0 call at p (past new)) e serves.serves.answers in
    let both = exact_by simulated_config (past old) (past new) call at reply (subst (λ (c : HubConfig). Answers c (past old) 0 call at (Some reply) (past new)) config answers) in
    record { config = serves.same_config ∙ config; replies = both.0; goes_on = both.1 }

-- ---- the tokens that a call was not handed

tickets_served : (c : HubConfig) (H later : List Entry) (call : Call) (at : ℕ) (reply : Option Reply) (ts : List Ticket) → Serves c H 0 call at reply later →
    Each (λ t. hands_ticket call t.request ≡ false) ts → Each (IsTicket H) ts → Each (IsTicket later) ts
tickets_served c H later call at reply [] serves spared good = tt
tickets_served c H later call at reply (t ∷ ts) serves spared good =
    let kept = serves.keeps_tickets 0 t.request good.0.0 spared.0 in
    ((kept.0, good.0.1 ∙ sym kept.1), tickets_served c H later call at reply ts serves spared.1 good.1)

reservations_served : (c : HubConfig) (H later : List Entry) (call : Call) (at : ℕ) (reply : Option Reply) (rs : List Reservation) → Serves c H 0 call at reply later →
    Each (λ r. hands_reservation call r.request r.slot ≡ false) rs → Each (IsReservation H) rs → Each (IsReservation later) rs
reservations_served c H later call at reply [] serves spared good = tt
reservations_served c H later call at reply (r ∷ rs) serves spared good =
    let kept = serves.keeps_reservations 0 r.request r.slot good.0.0 spared.0 in
    ((kept.0, good.0.1 ∙ sym kept.1), reservations_served c H later call at reply rs serves spared.1 good.1)

pub served : (old new : HubView) (call : Call) (at : ℕ) (reply : Option Reply) (ts : List Ticket) (rs : List Reservation) → ServesLocally old call at reply new →
    Each (λ t. hands_ticket call t.request ≡ false) ts → Each (λ r. hands_reservation call r.request r.slot ≡ false) rs → AreHeld (past old) ts rs → AreHeld (past new) ts rs
served old new call at reply ts rs serves spared_t spared_r held = record {
  tickets_good = tickets_served old.config (past old) (past new) call at reply ts serves.serves spared_t held.tickets_good;
  tickets_apart = held.tickets_apart;
  reservations_good = reservations_served old.config (past old) (past new) call at reply rs serves.serves spared_r held.reservations_good;
  reservations_apart = held.reservations_apart;
}

-- a call that is handed none
pub served_free : (old new : HubView) (call : Call) (at : ℕ) (reply : Option Reply) (ts : List Ticket) (rs : List Reservation) → ServesLocally old call at reply new →
    ((k : ℕ) → hands_ticket call k ≡ false) → ((k : ℕ) (s : SlotId) → hands_reservation call k s ≡ false) → AreHeld (past old) ts rs → AreHeld (past new) ts rs
served_free old new call at reply ts rs serves free_t free_r held =
    served old new call at reply ts rs serves
    (each_all (λ t. hands_ticket call t.request ≡ false) ts (λ t. free_t t.request))
    (each_all (λ r. hands_reservation call r.request r.slot ≡ false) rs (λ r. free_r r.request r.slot))
    held

-- room in the journal changes nothing of them
pub roomy : (old new : HubView) (ts : List Ticket) (rs : List Reservation) → new ≡ record old { room = true } → AreHeld (past old) ts rs → AreHeld (past new) ts rs
roomy old new ts rs made held = subst (λ (h : HubView). AreHeld (past h) ts rs) (sym made) held

-- ---- one more, one fewer

pub with_ticket_held : (H : List Entry) (ts : List Ticket) (rs : List Reservation) (t : Ticket) → AreHeld H ts rs → IsTicket H t → Each (λ u. same_request u t ≡ false) ts → AreHeld H (ts ++ t ∷ []) rs
with_ticket_held H ts rs t held good fresh = record {
  tickets_good = each_push (IsTicket H) ts t held.tickets_good good;
  tickets_apart = apart_push same_request ts t held.tickets_apart fresh;
  reservations_good = held.reservations_good;
  reservations_apart = held.reservations_apart;
}

pub with_reservation_held : (H : List Entry) (ts : List Ticket) (rs : List Reservation) (r : Reservation) → AreHeld H ts rs → IsReservation H r → Each (λ u. same_slot u r ≡ false) rs → AreHeld H ts (rs ++ r ∷ [])
with_reservation_held H ts rs r held good fresh = record {
  tickets_good = held.tickets_good;
  tickets_apart = held.tickets_apart;
  reservations_good = each_push (IsReservation H) rs r held.reservations_good good;
  reservations_apart = apart_push same_slot rs r held.reservations_apart fresh;
}

pub without_ticket : (H : List Entry) (ts : List Ticket) (rs : List Reservation) (i : ℕ) → AreHeld H ts rs → AreHeld H (remove ts i) rs
without_ticket H ts rs i held = record {
  tickets_good = each_removed (IsTicket H) ts i held.tickets_good;
  tickets_apart = apart_removed same_request ts i held.tickets_apart;
  reservations_good = held.reservations_good;
  reservations_apart = held.reservations_apart;
}

pub without_reservation : (H : List Entry) (ts : List Ticket) (rs : List Reservation) (i : ℕ) → AreHeld H ts rs → AreHeld H ts (remove rs i)
without_reservation H ts rs i held = record {
  tickets_good = held.tickets_good;
  tickets_apart = held.tickets_apart;
  reservations_good = each_removed (IsReservation H) rs i held.reservations_good;
  reservations_apart = apart_removed same_slot rs i held.reservations_apart;
}

pub with_ticket_back : (H : List Entry) (ts : List Ticket) (rs : List Reservation) (i : ℕ) (t u : Ticket) → slice_get ts i ≡ Some t → u ≡ t → Apart same_request ts → AreHeld H (remove ts i) rs → IsTicket H u →
    AreHeld H (insert (remove ts i) i u) rs
with_ticket_back H ts rs i t u e same apart held good = record {
  tickets_good = each_inserted (IsTicket H) (remove ts i) i u held.tickets_good good;
  tickets_apart = subst (λ (l : List Ticket). Apart same_request l) (sym (back_is ts i t u e same)) apart;
  reservations_good = held.reservations_good;
  reservations_apart = held.reservations_apart;
}
  where
    back_is : (ts : List Ticket) (i : ℕ) (t u : Ticket) → slice_get ts i ≡ Some t → u ≡ t → insert (remove ts i) i u ≡ ts
    back_is ts i t u e same = ap (λ (v : Ticket). insert (remove ts i) i v) same ∙ put_back ts i t e

-- ---- enqueue and dispatch

pub enqueue_held : (old new : HubView) (choices : List (List Cap)) (at : ℕ) (o : Option Reply) (t : Ticket) (ts : List Ticket) (rs : List Reservation) → old.config ≡ simulated_config →
    NumberedOneByOne simulated_config → legal old.config (past old) ≡ true → o ≡ Some (Reply.queued t) → ServesLocally old (Call.enqueue choices) at o new → AreHeld (past old) ts rs → AreHeld (past new) (ts ++ t ∷ []) rs
enqueue_held old new choices at o t ts rs config law l e serves held =
    let x = exact old new (Call.enqueue choices) at o (Reply.queued t) config e serves in
    let gives = subst (λ (p : Option Reply). GivesGood (past new) 0 p) e serves.serves.gives in
    with_ticket_held (past new) ts rs t (served_free old new (Call.enqueue choices) at o ts rs serves (λ k. refl) (λ k s. refl) held) (gives.0, gives.1)
    (fresh_ticket simulated_config (past old) choices at t ts law (subst (λ (c : HubConfig). legal c (past old) ≡ true) config l) x.replies held.tickets_good)

pub dispatch_held : (old new : HubView) (at : ℕ) (o : Option Reply) (r : Reservation) (ts : List Ticket) (rs : List Reservation) → old.config ≡ simulated_config → ChosenFits →
    o ≡ Some (Reply.assigned r) → ServesLocally old Call.dispatch at o new → AreHeld (past old) ts rs → AreHeld (past new) ts (rs ++ r ∷ [])
dispatch_held old new at o r ts rs config law e serves held =
    let x = exact old new Call.dispatch at o (Reply.assigned r) config e serves in
    let gives = subst (λ (p : Option Reply). GivesGood (past new) 0 p) e serves.serves.gives in
    with_reservation_held (past new) ts rs r (served_free old new Call.dispatch at o ts rs serves (λ k. refl) (λ k s. refl) held) (gives.0, gives.1)
    (fresh_assigned simulated_config (past old) at r rs law x.replies held.reservations_good)

-- ---- poll of the ticket at a place

pub may_poll : (H : List Entry) (ts : List Ticket) (rs : List Reservation) (i : ℕ) (t : Ticket) → slice_get ts i ≡ Some t → AreHeld H ts rs → MayCall H 0 (Call.poll t)
may_poll H ts rs i t e held = let good = each_at (IsTicket H) ts i t e held.tickets_good in record { is_good = good.0; is_true = good.1 }

number_turns : (a b : ℕ) → nat_eq a b ≡ false → nat_eq b a ≡ false
number_turns a b h = by_test (nat_eq b a) refl
  where
    by_test : (v : Bool) → nat_eq b a ≡ v → v ≡ false
    by_test false e = refl
    by_test true e =
        let same : b ≡ a = grind arith in
        let other : nat_eq b b ≡ false = subst (λ (x : ℕ). nat_eq x b ≡ false) (sym same) h in
        let one : nat_eq b b ≡ true = subst (λ (x : ℕ). nat_eq b x ≡ true) (sym same) e in
        absurd cc

turns : (t u : Ticket) → same_request t u ≡ false → same_request u t ≡ false
turns t u h = number_turns t.request u.request h

-- the other tokens, after the poll
pub poll_others : (old new : HubView) (at : ℕ) (o : Option Reply) (i : ℕ) (t : Ticket) (ts : List Ticket) (rs : List Reservation) → slice_get ts i ≡ Some t →
    ServesLocally old (Call.poll t) at o new → AreHeld (past old) ts rs → AreHeld (past new) (remove ts i) rs
poll_others old new at o i t ts rs e serves held =
    served old new (Call.poll t) at o (remove ts i) rs serves
    (apart_from same_request ts i t turns e held.tickets_apart)
    (each_all (λ r. hands_reservation (Call.poll t) r.request r.slot ≡ false) rs (λ r. refl))
    (without_ticket (past old) ts rs i held)

pub poll_not_yet_held : (old new : HubView) (at : ℕ) (o : Option Reply) (i : ℕ) (t u : Ticket) (ts : List Ticket) (rs : List Reservation) → old.config ≡ simulated_config → slice_get ts i ≡ Some t →
    o ≡ Some (Reply.not_yet u) → ServesLocally old (Call.poll t) at o new → AreHeld (past old) ts rs → AreHeld (past new) (insert (remove ts i) i u) rs × (insert (remove ts i) i u ≡ ts)
poll_not_yet_held old new at o i t u ts rs config e r serves held =
    let x = exact old new (Call.poll t) at o (Reply.not_yet u) config r serves in
    let good = each_at (IsTicket (past old)) ts i t e held.tickets_good in
    let same : u ≡ t = poll_not_yet simulated_config (past old) t at u x.replies ∙ sym good.1 in
    let gives = subst (λ (p : Option Reply). GivesGood (past new) 0 p) r serves.serves.gives in
    (with_ticket_back (past new) ts rs i t u e same held.tickets_apart (poll_others old new at o i t ts rs e serves held) (gives.0, gives.1), ap (λ (v : Ticket). insert (remove ts i) i v) same ∙ put_back ts i t e)

both : (a b : Bool) → (a && b) ≡ true → (a ≡ true) × (b ≡ true)
both true b e = (refl, e)
both false b e = absurd (cc)

pub poll_yours_held : (old new : HubView) (at : ℕ) (o : Option Reply) (i : ℕ) (t u : Ticket) (s : Reservation) (ts : List Ticket) (rs : List Reservation) → old.config ≡ simulated_config → ChosenFits →
    slice_get ts i ≡ Some t → o ≡ Some (Reply.yours u s) → ServesLocally old (Call.poll t) at o new → AreHeld (past old) ts rs →
    AreHeld (past new) (insert (remove ts i) i u) (rs ++ s ∷ []) × (insert (remove ts i) i u ≡ ts)
poll_yours_held old new at o i t u s ts rs config law e r serves held =
    let x = exact old new (Call.poll t) at o (Reply.yours u s) config r serves in
    let good = each_at (IsTicket (past old)) ts i t e held.tickets_good in
    let told = poll_yours simulated_config (past old) t at u s law x.replies in
    let same : u ≡ t = told.0 ∙ sym good.1 in
    let gives = subst (λ (p : Option Reply). GivesGood (past new) 0 p) r serves.serves.gives in
    let each = both (is_good_ticket (past new) 0 u.request) (is_good_reservation (past new) 0 s.request s.slot) gives.0 in
    let back = with_ticket_back (past new) ts rs i t u e same held.tickets_apart (poll_others old new at o i t ts rs e serves held) (each.0, gives.1.0) in (
      with_reservation_held (past new) (insert (remove ts i) i u) rs s back (each.1, gives.1.1)
          (each_more (IsReservation (past old)) (λ v. same_slot v s ≡ false) rs (λ v is. held_apart (past old) v.request v.slot s.slot is.0 told.1) held.reservations_good),
      ap (λ (v : Ticket). insert (remove ts i) i v) same ∙ put_back ts i t e,
    )

-- for want of memory nothing has changed, and the ticket is back
pub poll_lack_held : (old new : HubView) (at : ℕ) (o : Option Reply) (i : ℕ) (t u : Ticket) (ts : List Ticket) (rs : List Reservation) → slice_get ts i ≡ Some t →
    o ≡ None → u ≡ t → ServesLocally old (Call.poll t) at o new → AreHeld (past old) ts rs → AreHeld (past new) (insert (remove ts i) i u) rs
poll_lack_held old new at o i t u ts rs e n same serves held =
    let stays : past new ≡ past old = unchanged old.config (past old) (past new) (Call.poll t) at o n serves.serves.answers in
    subst (λ (l : List Ticket). AreHeld (past new) l rs) (sym (ap (λ (v : Ticket). insert (remove ts i) i v) same ∙ put_back ts i t e))
    (subst (λ (H : List Entry). AreHeld H ts rs) (sym stays) held)
  where
    none_is : (a : Reply) → None ≡ Some a → ⊥
    none_is a h = cc

    unchanged : (c : HubConfig) (H later : List Entry) (call : Call) (at : ℕ) (o : Option Reply) → o ≡ None → Answers c H 0 call at o later → later ≡ H
    unchanged c H later call at o n (inl exact) = absurd (none_is _ (sym n ∙ exact.replies))
    unchanged c H later call at o n (inr lack) = lack.stays

-- ---- starts

pub start_good : (H : List Entry) (ts : List Ticket) (rs : List Reservation) (i : ℕ) (r : Reservation) → slice_get rs i ≡ Some r → AreHeld H ts rs → IsReservation H r
start_good H ts rs i r e held = each_at (IsReservation H) rs i r e held.reservations_good

slot_turns : (a b : SlotId) → slot_eq a b ≡ false → slot_eq b a ≡ false
slot_turns a b h = by_test (slot_eq b a) refl
  where
    by_test : (v : Bool) → slot_eq b a ≡ v → v ≡ false
    by_test false e = refl
    by_test true e =
        let same : b ≡ a = slot_eq_is b a e in
        let other : slot_eq b b ≡ false = subst (λ (x : SlotId). slot_eq x b ≡ false) (sym same) h in
        let one : slot_eq b b ≡ true = subst (λ (x : SlotId). slot_eq b x ≡ true) (sym same) e in
        absurd cc

slots_turn : (r s : Reservation) → same_slot r s ≡ false → same_slot s r ≡ false
slots_turn r s h = slot_turns r.slot s.slot h

tickets_kept : (H later : List Entry) (ts : List Ticket) → ((k : ℕ) → is_good_ticket H 0 k ≡ true → (is_good_ticket later 0 k ≡ true) × (ticket_of later k ≡ ticket_of H k)) →
    Each (IsTicket H) ts → Each (IsTicket later) ts
tickets_kept H later ts keeps good = each_more (IsTicket H) (IsTicket later) ts (λ t is. let kept = keeps t.request is.0 in (kept.0, is.1 ∙ sym kept.1)) good

reservations_kept : (H later : List Entry) (slot : SlotId) (rs : List Reservation) →
    ((k : ℕ) (s : SlotId) → is_good_reservation H 0 k s ≡ true → slot_eq slot s ≡ false → (is_good_reservation later 0 k s ≡ true) × (reservation_of later k s ≡ reservation_of H k s)) →
    Each (λ r. slot_eq slot r.slot ≡ false) rs → Each (IsReservation H) rs → Each (IsReservation later) rs
reservations_kept H later slot [] keeps spared good = tt
reservations_kept H later slot (r ∷ rs) keeps spared good =
    let kept = keeps r.request r.slot good.0.0 spared.0 in
    ((kept.0, good.0.1 ∙ sym kept.1), reservations_kept H later slot rs keeps spared.1 good.1)

-- the other tokens, after a start
pub start_held : (H later : List Entry) (ts : List Ticket) (rs : List Reservation) (i : ℕ) (r : Reservation) → slice_get rs i ≡ Some r →
    ((k : ℕ) → is_good_ticket H 0 k ≡ true → (is_good_ticket later 0 k ≡ true) × (ticket_of later k ≡ ticket_of H k)) →
    ((k : ℕ) (s : SlotId) → is_good_reservation H 0 k s ≡ true → slot_eq r.slot s ≡ false → (is_good_reservation later 0 k s ≡ true) × (reservation_of later k s ≡ reservation_of H k s)) →
    AreHeld H ts rs → AreHeld later ts (remove rs i)
start_held H later ts rs i r e tickets reservations held = record {
  tickets_good = tickets_kept H later ts tickets held.tickets_good;
  tickets_apart = held.tickets_apart;
  reservations_good = reservations_kept H later r.slot (remove rs i) reservations (apart_from same_slot rs i r slots_turn e held.reservations_apart) (each_removed (IsReservation H) rs i held.reservations_good);
  reservations_apart = apart_removed same_slot rs i held.reservations_apart;
}

-- ---- a call that is handed no token, and changes none of them

pub free_sound : (old new : HubView) (call : Call) (at : ℕ) (reply : Option Reply) (ts us : List Ticket) (rs ss : List Reservation) → old.config ≡ simulated_config → us ≡ ts → ss ≡ rs → ServesLocally old call at reply new →
    ((k : ℕ) → hands_ticket call k ≡ false) → ((k : ℕ) (s : SlotId) → hands_reservation call k s ≡ false) → AreHeld (past old) ts rs → (new.config ≡ simulated_config) × AreHeld (past new) us ss
free_sound old new call at reply ts us rs ss config same alike serves free_t free_r held = (
  serves.same_config ∙ config,
  subst (λ (l : List Ticket). AreHeld (past new) l ss) (sym same) (subst (λ (l : List Reservation). AreHeld (past new) ts l) (sym alike) (served_free old new call at reply ts rs serves free_t free_r held)),
)

pub roomed : (old new : HubView) (ts : List Ticket) (rs : List Reservation) → new ≡ record old { room = true } → old.config ≡ simulated_config → AreHeld (past old) ts rs → (new.config ≡ simulated_config) × AreHeld (past new) ts rs
roomed old new ts rs made config held = (ap (λ (h : HubView). h.config) made ∙ config, roomy old new ts rs made held)

-- a closing that the hub gave is good
pub may_free : (H : List Entry) (c : Closing) → is_good_closing H 0 c.slot ≡ true → MayCall H 0 (Call.freed c)
may_free H c good = record { is_good = good; is_true = tt }

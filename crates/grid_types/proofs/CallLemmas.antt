-- What the hub of one thread appends is permitted.
use Rattle.std.proofs.Common.{◌≡◌, ℕ, ◌-◌, max, Bool, true, false, cond, not, ◌&&◌, List, [], ◌∷◌, length, refl, arith}
use Rattle.std.specs.Prelude.{Option, None, Some, nat_lt, nat_le, is_some, option_map, find}
use Rattle.std.specs.List.{list_any}
use Rattle.grid_types.specs.declared.entry.Entry.{Entry}
use Rattle.grid_types.specs.declared.entry.Change.TheVariants as change
use Rattle.grid_types.specs.declared.entry.FailWhy.{FailWhy}
use Rattle.grid_types.specs.declared.entry.FailWhy.TheVariants as why
use Rattle.grid_types.specs.declared.entry.EndCause.{EndCause}
use Rattle.grid_types.specs.declared.entry.EndCause.TheVariants as cause
use Rattle.grid_types.specs.declared.entry.Outcome.{Outcome}
use Rattle.grid_types.specs.declared.names.SlotId.{SlotId}
use Rattle.grid_types.specs.declared.capabilities.Cap.{Cap}
use Rattle.grid_types.specs.declared.capabilities.Registration.{Registration}
use Rattle.grid_types.specs.declared.config.HubConfig.{HubConfig}
use Rattle.grid_types.specs.Lists.{least}
use Rattle.grid_types.specs.History.{after, clock, nodes}
use Rattle.grid_types.specs.Nodes.{is_base_up, is_registered, is_spent}
use Rattle.grid_types.specs.Slots.{held, holder}
use Rattle.grid_types.specs.Bindings.{Running, bound_of, bindings}
use Rattle.grid_types.specs.Requests.{Asked, place, place_by, held as held_place, is_unsettled, is_waiting, is_settled, is_taken, is_reserved, outcome_of, asked_of, deadline_of}
use Rattle.grid_types.specs.Sessions.{IsRunning, is_live, is_live_session, live, active, live_bindings}
use Rattle.grid_types.specs.Choice.{Assignment, chosen}
use Rattle.grid_types.specs.Permitted.{permitted, is_named, is_name_taken, is_well_sized, is_assignment, is_last, is_caller, is_start_failure, bool_eq, wanted_of}
use Rattle.grid_types.specs.Matching.{meets}
use Rattle.grid_types.specs.Legal.{legal}
use Rattle.grid_types.specs.Tokens.{Closing, is_good_ticket, is_good_reservation, is_good_closing}
use Rattle.grid_types.specs.Calls.{Call, Reply}
use Rattle.grid_types.specs.HubAnswers.{says, makes, moment, register_by, drained, enqueued, polled, polled_open, withdrawn, reserves, dispatched, bind_kept, bound, bound_by, failed, at_binding, is_binding, closes, expired_by, idle_bindings, hub, answer, after_call}
use Rattle.grid_types.specs.Laws.{is_good_call}
use Rattle.grid_types.proofs.ListLemmas.{least-passes, least-all, all-filter, all-passed, and_left, and_right}
use Rattle.grid_types.proofs.PermittedLemmas.{slot_eq-same, held-is}
use Rattle.grid_types.proofs.SessionLemmas.{entry}
use Rattle.grid_types.proofs.SweepLemmas.{both, StaysLegal, still, clear-legal, sweep-legal}
use Rattle.grid_types.proofs.HeldLemmas.{place-held}
use Rattle.grid_types.proofs.MapLemmas.{running-live}

find-none : {X : Type 0} (p : X → Bool) (xs : List X) → find p xs ≡ None → list_any p xs ≡ false
find-none p [] h = refl
find-none p (x ∷ xs) h = grind (arith, find-none p xs)

register-legal : (c : HubConfig) (H : List Entry) (k : ℕ) (r : Registration) (m : ℕ) (o : Option ℕ) → legal c H ≡ true → nat_le (clock H) m ≡ true → is_well_sized r ≡ true → find (is_named H r.name) (nodes H) ≡ o → StaysLegal c H k (register_by c H r m o)
unfolding permitted
register-legal c H k r m (Some n) l t good e = l
register-legal c H k r m None l t good e =
    let name : is_name_taken H r.name ≡ false = find-none (is_named H r.name) (nodes H) e in
    grind arith

enqueue-legal : (c : HubConfig) (H : List Entry) (k : ℕ) (choices : List (List Cap)) (m : ℕ) → legal c H ≡ true → nat_le (clock H) m ≡ true → (nat_le 1 (length choices) && nat_le (length choices) 64) ≡ true → StaysLegal c H k (enqueued c H choices m)
unfolding permitted
enqueue-legal c H k choices m l t good =
    grind arith

drain-legal : (c : HubConfig) (H : List Entry) (k n m : ℕ) → legal c H ≡ true → nat_le (clock H) m ≡ true → StaysLegal c H k (drained H n m)
unfolding permitted
drain-legal c H k n m l t = grind arith

assignment-is : (o : Option Assignment) (a : Assignment) → o ≡ Some a → is_assignment a.request a.choice a.slot o ≡ true
assignment-is None a e = cc
assignment-is (Some b) a e = let same : b ≡ a = cc in grind (arith, slot_eq-same a.slot)

reserves-permitted : (c : HubConfig) (H : List Entry) (k m : ℕ) (a : Assignment) → nat_le (clock H) m ≡ true → chosen H m ≡ Some a → permitted c H k (reserves m a) ≡ true
unfolding permitted
reserves-permitted c H k m a t e = both _ _ t (assignment-is (chosen H m) a e)

dispatch-legal : (c : HubConfig) (H : List Entry) (k m : ℕ) (o : Option Assignment) → legal c H ≡ true → nat_le (clock H) m ≡ true → chosen H m ≡ o → StaysLegal c H k (dispatched H k m o)
dispatch-legal c H k m None l t e = l
dispatch-legal c H k m (Some a) l t e = both _ _ l (reserves-permitted c H k m a t e)

poll_open-legal : (c : HubConfig) (H : List Entry) (k r m : ℕ) (o : Option Assignment) → legal c H ≡ true → nat_le (clock H) m ≡ true → chosen H m ≡ o → StaysLegal c H k (polled_open H k r m o)
poll_open-legal c H k r m None l t e = l
poll_open-legal c H k r m (Some a) l t e = grind (arith, reserves-permitted c H k m a t e)

bool_eq-same : (b : Bool) → bool_eq b b ≡ true
bool_eq-same true = refl
bool_eq-same false = refl

fail-legal : (c : HubConfig) (H : List Entry) (k r : ℕ) (s : SlotId) (w : FailWhy) (m : ℕ) → legal c H ≡ true → nat_le (clock H) m ≡ true → (is_good_reservation H k r s && is_start_failure w) ≡ true → StaysLegal c H k (failed H r s w m)
unfolding permitted
fail-legal c H k r s w m l t good = grind (arith, bool_eq-same (is_last H r s))

freed-legal : (c : HubConfig) (H : List Entry) (k : ℕ) (s : SlotId) (r : Reply) → legal c H ≡ true → is_good_closing H k s ≡ true → StaysLegal c H k (makes (change.Freed s) r)
unfolding permitted
freed-legal c H k s r l good = both _ _ l good

-- the moment of a call is not before the clock
raised : (at clock : ℕ) → nat_le clock (max at clock) ≡ true
raised at clock = grind arith

asked_there : (k : ℕ) (o : Option Asked) → is_caller k (option_map (λ a. a.caller) o) ≡ true → is_some o ≡ true
asked_there k None h = cc
asked_there k (Some a) h = refl

-- a request that was queued, and is not settled and not taken, is Waiting or Held
unsettled_place : (t : Bool) (o : Option Outcome) (v a : Bool) → not t ≡ true → o ≡ None → a ≡ true → is_unsettled (place_by t o v a) ≡ true
unsettled_place false None true a h e g = refl
unsettled_place false None false true h e g = refl
unsettled_place t o v a h e g = absurd (grind arith)

-- poll
poll-legal : (c : HubConfig) (H : List Entry) (k r m : ℕ) (o : Option Outcome) → legal c H ≡ true → nat_le (clock H) m ≡ true → is_good_ticket H k r ≡ true → outcome_of H r ≡ o → StaysLegal c H k (polled H k r m o)
unfolding permitted
poll-legal c H k r m (Some o) l t good e = let done : is_settled H r ≡ true = rw e refl in both _ _ l (grind arith)
poll-legal c H k r m None l t good e =
    let asked : is_some (asked_of H r) ≡ true = asked_there k (asked_of H r) (and_left _ _ good) in
    let open_yet : is_unsettled (place H r) ≡ true = unsettled_place (is_taken H r) (outcome_of H r) (is_reserved H r) (is_some (asked_of H r)) (and_right _ _ good) e asked in
    let rest : StaysLegal c H k (polled_open H k r m (chosen H m)) = poll_open-legal c H k r m (chosen H m) l t refl in
    let same_clock : nat_le (max m (clock H)) m ≡ true = still m (clock H) t in
    by_deadline (nat_le (deadline_of H r) m) refl open_yet rest same_clock
  where
    by_deadline : (v : Bool) → nat_le (deadline_of H r) m ≡ v → is_unsettled (place H r) ≡ true → StaysLegal c H k (polled_open H k r m (chosen H m)) → nat_le (max m (clock H)) m ≡ true → StaysLegal c H k (polled H k r m None)
    by_deadline true late open_yet rest same_clock = grind arith
    by_deadline false early open_yet rest same_clock = rw early rest

-- withdraw
withdraw-legal : (c : HubConfig) (H : List Entry) (k r m : ℕ) (o : Option Outcome) → legal c H ≡ true → nat_le (clock H) m ≡ true → is_good_ticket H k r ≡ true → outcome_of H r ≡ o → StaysLegal c H k (withdrawn H r m o)
unfolding permitted
withdraw-legal c H k r m (Some o) l t good e = let done : is_settled H r ≡ true = rw e refl in both _ _ l (grind arith)
withdraw-legal c H k r m None l t good e = by_place (is_waiting (place H r)) refl (still m (clock H) t)
  where
    by_place : (v : Bool) → is_waiting (place H r) ≡ v → nat_le (max m (clock H)) m ≡ true → StaysLegal c H k (withdrawn H r m None)
    by_place true waits same_clock = grind arith
    by_place false other same_clock = rw other l

-- bind
drain_bind-legal : (c : HubConfig) (G : List Entry) (k n m : ℕ) (b : Bool) → legal c G ≡ true → nat_le (clock G) m ≡ true → (b ≡ true → is_base_up G n ≡ true) →
    legal c (after G k (cond b (change.Draining n (moment m) ∷ []) [])) ≡ true
unfolding permitted
drain_bind-legal c G k n m true l t up = both _ _ l (both _ _ t (up refl))
drain_bind-legal c G k n m false l t up = l

kept-legal : (c : HubConfig) (H : List Entry) (k r : ℕ) (s : SlotId) (x : List ℕ) (caps : List Cap) (m : ℕ) → legal c H ≡ true → nat_le (clock H) m ≡ true →
    permitted c H k (change.Bound r s x caps (moment m)) ≡ true → StaysLegal c H k (bind_kept H k r s x caps m)
kept-legal c H k r s x caps m l t p = drain_bind-legal c G k s.node m (is_spent G s.node && is_base_up G s.node) (both _ _ l p) (still m (clock H) t) (λ e. and_right _ _ e)
  where
    G : List Entry
    G = entry k (change.Bound r s x caps (moment m)) ∷ H

bind-legal : (c : HubConfig) (H : List Entry) (k r : ℕ) (s : SlotId) (x : List ℕ) (caps : List Cap) (m : ℕ) → legal c H ≡ true → nat_le (clock H) m ≡ true → is_good_reservation H k r s ≡ true → StaysLegal c H k (bound H k r s x caps m)
unfolding permitted
bind-legal c H k r s x caps m l t good =
    let holds : holder H s ≡ held r = held-is r (holder H s) (and_left _ _ good) in
    let own : bool_eq (is_last H r s) (is_last H r s) ≡ true = bool_eq-same (is_last H r s) in
    by_settled (is_settled H r) refl (place-held c H s r l holds) own
  where
    by_settled : (v : Bool) → is_settled H r ≡ v → (is_settled H r ≡ false → place H r ≡ held_place) → bool_eq (is_last H r s) (is_last H r s) ≡ true → StaysLegal c H k (bound H k r s x caps m)
    by_settled true late is_place own = grind arith
    by_settled false open_yet is_place own =
        let here : place H r ≡ held_place = is_place open_yet in
        let may : is_registered H s.node ≡ true → is_live_session H x ≡ false → meets (wanted_of H r s) caps ≡ true → permitted c H k (change.Bound r s x caps (moment m)) ≡ true =
        λ a b d. grind arith in
        rw open_yet (by_node (is_registered H s.node) (is_live_session H x) (meets (wanted_of H r s) caps) refl refl refl own
        (λ a b d. kept-legal c H k r s x caps m l t (may a b d)))
      where
        by_node : (reg lives fit : Bool) → is_registered H s.node ≡ reg → is_live_session H x ≡ lives → meets (wanted_of H r s) caps ≡ fit → bool_eq (is_last H r s) (is_last H r s) ≡ true →
            (is_registered H s.node ≡ true → is_live_session H x ≡ false → meets (wanted_of H r s) caps ≡ true → StaysLegal c H k (bind_kept H k r s x caps m)) →
            StaysLegal c H k (bound_by H k r s x caps m (cond (not (is_registered H s.node)) (Some why.NodeGone)
            (cond (is_live_session H x) (Some why.Duplicate) (cond (not (meets (wanted_of H r s) caps)) (Some why.Mismatch) None))))
        by_node false lives fit a b d own kept = grind arith
        by_node true true fit a b d own kept = grind arith
        by_node true false false a b d own kept = grind arith
        by_node true false true a b d own kept = rw (a, b, d) (kept a b d)

-- touch and end
binding-live : (c : HubConfig) (H : List Entry) (s : List ℕ) (b : ℕ) (o : Option Running) → legal c H ≡ true → live H s ≡ o → is_binding b o ≡ true → is_live H b ≡ true
binding-live c H s b None l e h = cc
binding-live c H s b (Some x) l e h = let runs : IsRunning H x × (x.session ≡ s) = running-live c H s x l e in grind (arith, runs.0.live)

touch-legal : (c : HubConfig) (H : List Entry) (k : ℕ) (s : List ℕ) (b m : ℕ) (r : Reply) → legal c H ≡ true → nat_le (clock H) m ≡ true → StaysLegal c H k (at_binding H s b (makes (change.Touched b (moment m)) r))
unfolding permitted
touch-legal c H k s b m r l t = grind (arith, binding-live c H s b (live H s) l refl)

closes-legal : (c : HubConfig) (H : List Entry) (k b : ℕ) (e : EndCause) (m : ℕ) (o : Option Running) (r : Closing → Reply) → legal c H ≡ true → permitted c H k (change.Ended b e (moment m)) ≡ true → StaysLegal c H k (closes H k (change.Ended b e (moment m)) o r)
closes-legal c H k b e m None r l p = l
closes-legal c H k b e m (Some x) r l p = both _ _ l p

end-legal : (c : HubConfig) (H : List Entry) (k : ℕ) (s : List ℕ) (b m : ℕ) (r : Closing → Reply) → legal c H ≡ true → nat_le (clock H) m ≡ true →
    StaysLegal c H k (at_binding H s b (closes H k (change.Ended b cause.Quit (moment m)) (live H s) r))
unfolding permitted
end-legal c H k s b m r l t = by_binding (is_binding b (live H s)) refl
  where
    may_quit : is_live H b ≡ true → permitted c H k (change.Ended b cause.Quit (moment m)) ≡ true
    may_quit h = grind arith

    by_binding : (v : Bool) → is_binding b (live H s) ≡ v → StaysLegal c H k (cond v (closes H k (change.Ended b cause.Quit (moment m)) (live H s) r) (says Reply.no_session))
    by_binding true e = closes-legal c H k b cause.Quit m (live H s) r l (may_quit (binding-live c H s b (live H s) l refl e))
    by_binding false e = l

-- expire
expire-legal : (c : HubConfig) (H : List Entry) (k m : ℕ) (o : Option ℕ) → legal c H ≡ true → nat_le (clock H) m ≡ true → least nat_lt (idle_bindings c H m) ≡ o → StaysLegal c H k (expired_by H k m o)
unfolding permitted
expire-legal c H k m None l t e = l
expire-legal c H k m (Some b) l t e = closes-legal c H k b cause.Idle m (bound_of H b) Reply.expired l (may_expire lives idles)
  where
    may_expire : is_live H b ≡ true → nat_le c.idle_ms (m - active H b) ≡ true → permitted c H k (change.Ended b cause.Idle (moment m)) ≡ true
    may_expire h i = grind arith

    idles : nat_le c.idle_ms (m - active H b) ≡ true
    idles = least-passes nat_lt (λ b. nat_le c.idle_ms (m - active H b)) (live_bindings H) b e

    lives : is_live H b ≡ true
    lives = least-all nat_lt (is_live H) (idle_bindings c H m) b (all-filter (is_live H) (λ b. nat_le c.idle_ms (m - active H b)) (live_bindings H) (all-passed (is_live H) (bindings H))) e

-- each answer leaves a legal history
answer-legal : (c : HubConfig) (H : List Entry) (k : ℕ) (call : Call) (m : ℕ) → legal c H ≡ true → nat_le (clock H) m ≡ true → is_good_call H k call ≡ true → StaysLegal c H k (answer c H k call m)
unfolding permitted
answer-legal c H k (Call.register r) m l t good = register-legal c H k r m (find (is_named H r.name) (nodes H)) l t good refl
answer-legal c H k (Call.beat n None) m l t good = grind arith
answer-legal c H k (Call.beat n (Some name)) m l t good = grind arith
answer-legal c H k (Call.drain n) m l t good = drain-legal c H k n m l t
answer-legal c H k (Call.remove n) m l t good = grind arith
answer-legal c H k (Call.enqueue choices) m l t good = enqueue-legal c H k choices m l t good
answer-legal c H k (Call.poll u) m l t good = poll-legal c H k u.request m (outcome_of H u.request) l t good refl
answer-legal c H k (Call.withdraw u) m l t good = withdraw-legal c H k u.request m (outcome_of H u.request) l t good refl
answer-legal c H k Call.dispatch m l t good = dispatch-legal c H k m (chosen H m) l t refl
answer-legal c H k (Call.bind u x caps) m l t good = bind-legal c H k u.request u.slot x caps m l t good
answer-legal c H k (Call.fail u w) m l t good = fail-legal c H k u.request u.slot w m l t good
answer-legal c H k (Call.lookup s) m l t good = l
answer-legal c H k (Call.touch s b) m l t good = touch-legal c H k s b m Reply.touched l t
answer-legal c H k (Call.end s b) m l t good = end-legal c H k s b m (λ d. Reply.ended d) l t
answer-legal c H k (Call.freed u) m l t good = freed-legal c H k u.slot Reply.is_freed l good
answer-legal c H k Call.sweep m l t good = sweep-legal c H k m l t
answer-legal c H k Call.expire m l t good = expire-legal c H k m (least nat_lt (idle_bindings c H m)) l t refl
answer-legal c H k Call.clear m l t good = clear-legal c H k m l t
answer-legal c H k Call.view m l t good = l

-- each call of the hub of one thread leaves a legal history
pub calls-stay-legal : (c : HubConfig) (H : List Entry) (k : ℕ) (call : Call) (at : ℕ) → legal c H ≡ true → is_good_call H k call ≡ true → legal c (after_call c H k call at) ≡ true
unfolding hub
calls-stay-legal c H k call at l good = answer-legal c H k call (max at (clock H)) l (raised at (clock H)) good

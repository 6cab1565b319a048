-- Reservations come from the replies of dispatch and poll.
use Rattle.std.proofs.Common.{◌≡◌, ◌⊎◌, ℕ, Bool, true, false, cond, ◌&&◌, ◌||◌, nat_eq, nat_le, nat_lt, List, [], ◌∷◌, ◌++◌, map, refl, arith, inl, inr, Option, None, Some, find, is_some}
use Rattle.std.specs.List.{list_any}
use Rattle.std.specs.Prelude.{unwrap_or}
use Rattle.grid_types.specs.declared.config.HubConfig.{HubConfig}
use Rattle.grid_types.specs.declared.entry.Entry.{Entry}
use Rattle.grid_types.specs.declared.entry.Change.{Change}
use Rattle.grid_types.specs.declared.entry.Change.TheVariants as change
use Rattle.grid_types.specs.declared.entry.EndCause.TheVariants as cause
use Rattle.grid_types.specs.declared.entry.FailWhy.{FailWhy}
use Rattle.grid_types.specs.declared.entry.Outcome.{Outcome}
use Rattle.grid_types.specs.declared.entry.Outcome.TheVariants as outcome
use Rattle.grid_types.specs.declared.capabilities.Cap.{Cap}
use Rattle.grid_types.specs.declared.capabilities.Registration.{Registration}
use Rattle.grid_types.specs.declared.names.SlotId.{SlotId}
use Rattle.grid_types.specs.History.{after, nodes}
use Rattle.grid_types.specs.Lists.{least, when, or_else}
use Rattle.grid_types.specs.Slots.{Holder, slot_eq, holder, owner, holder_told, is_held_by}
use Rattle.grid_types.specs.Requests.{outcome_of, deadline_of, waiting_requests}
use Rattle.grid_types.specs.Bindings.{Running, bound_of}
use Rattle.grid_types.specs.Sessions.{live}
use Rattle.grid_types.specs.Choice.{Assignment, chosen}
use Rattle.grid_types.specs.Permitted.{is_named, is_caller}
use Rattle.grid_types.specs.Tokens.{is_good_reservation, ticket_of}
use Rattle.grid_types.specs.Calls.{Call, Reply}
use Rattle.grid_types.specs.HandedIn.{hands_reservation}
use Rattle.grid_types.specs.HubAnswers.{Answer, says, moment, makes, reserved, register_by, drained, enqueued, polled, polled_open, withdrawn, reserves, dispatched, bound_by, refusal_of, drain_after_bind, failed, is_binding, closes, expired_by, idle_bindings, lapses, lapsed_nodes, suspicions, silent_nodes, time_outs, overdue_requests, removals, drained_nodes, swept, cleared, hub, answer}
use Rattle.token_laws.specs.Gives.{gives_reservation, ReservationsComeFromReplies}

-- a change that reserves the slot for the request
abbrev reserves_it : ℕ → SlotId → Change → Bool
reserves_it r z (change.Reserved named slot choice at) = nat_eq named r && slot_eq slot z
reserves_it r z c = false

-- only it leaves the slot held for the request
leaves : (H : List Entry) (z : SlotId) (before h : Holder) (c : Change) (r : ℕ) → holder_told H z before c ≡ Some h → is_held_by r h ≡ true → reserves_it r z c ≡ true
leaves H z before h (change.Reserved named slot choice at) r told mine = grind (arith, told, mine)
leaves H z before h (change.Bound named slot x caps at) r told mine = grind (arith, told, mine)
leaves H z before h (change.Failed named slot w orphan last at) r told mine = grind (arith, told, mine)
leaves H z before h (change.Freed slot) r told mine = grind (arith, told, mine)
leaves H z before h (change.Ended b e at) r told mine = grind (arith, told, mine)
leaves H z before h (change.Lapsed n at) r told mine = grind (arith, told, mine)
leaves H z before h c r told mine = absurd (cc told)

one_of_two : (a b : Bool) → (a && b) ≡ true → a ≡ true
one_of_two a b e = grind (arith, e)

differs : (a : Bool) → a ≡ false → a ≡ true → ⊥
differs a x y = absurd (cc)

step : (H : List Entry) (k : ℕ) (c : Change) (r : ℕ) (z : SlotId) → reserves_it r z c ≡ false → is_good_reservation (record { caller = k; change = c } ∷ H) k r z ≡ true → is_good_reservation H k r z ≡ true
step H k c r z none good = by_told (holder_told H z (holder H z) c) refl good
  where
    by_told : (o : Option Holder) → holder_told H z (holder H z) c ≡ o
        → (is_held_by r (unwrap_or o (holder H z)) && is_caller k (or_else (when (is_some o) k) (owner H z))) ≡ true → is_good_reservation H k r z ≡ true
    by_told None e h = h
    by_told (Some h) e both = absurd (differs (reserves_it r z c) none (leaves H z (holder H z) h c r e (one_of_two (is_held_by r h) (is_caller k (or_else (when (is_some (Some h)) k) (owner H z))) both)))

left : (a b : Bool) → (a || b) ≡ false → a ≡ false
left a b e = grind (arith, e)

right : (a b : Bool) → (a || b) ≡ false → b ≡ false
right a b e = grind (arith, e)

older : (H : List Entry) (k : ℕ) (cs : List Change) (r : ℕ) (z : SlotId) → list_any (reserves_it r z) cs ≡ false → is_good_reservation (after H k cs) k r z ≡ true → is_good_reservation H k r z ≡ true
older H k [] r z none good = good
older H k (c ∷ cs) r z none good =
    step H k c r z (left (reserves_it r z c) (list_any (reserves_it r z) cs) none) (older (record { caller = k; change = c } ∷ H) k cs r z (right (reserves_it r z c) (list_any (reserves_it r z) cs) none) good)

-- no change of these reserves the slot for the request
abbrev Quiet : List Change → ℕ → SlotId → Type 0
Quiet cs r z = list_any (reserves_it r z) cs ≡ false

quiet-map : (mk : ℕ → Change) (ns : List ℕ) (r : ℕ) (z : SlotId) → ((n : ℕ) → reserves_it r z (mk n) ≡ false) → Quiet (map mk ns) r z
quiet-map mk [] r z each = refl
quiet-map mk (n ∷ ns) r z each = rw (each n, quiet-map mk ns r z each) refl

quiet-append : (cs ds : List Change) (r : ℕ) (z : SlotId) → Quiet cs r z → Quiet ds r z → Quiet (cs ++ ds) r z
quiet-append [] ds r z first second = second
quiet-append (c ∷ cs) ds r z first second = grind (arith, first, quiet-append cs ds r z)

register-quiet : (c : HubConfig) (H : List Entry) (n : Registration) (m : ℕ) (o : Option ℕ) (r : ℕ) (z : SlotId) → Quiet (register_by c H n m o).changes r z
register-quiet c H n m (Some k) r z = refl
register-quiet c H n m None r z = grind arith

drain-quiet : (H : List Entry) (n m r : ℕ) (z : SlotId) → Quiet (drained H n m).changes r z
drain-quiet H n m r z = grind arith

enqueue-quiet : (c : HubConfig) (H : List Entry) (choices : List (List Cap)) (m r : ℕ) (z : SlotId) → Quiet (enqueued c H choices m).changes r z
enqueue-quiet c H choices m r z = grind arith

expire-quiet : (H : List Entry) (k m : ℕ) (o : Option ℕ) (r : ℕ) (z : SlotId) → Quiet (expired_by H k m o).changes r z
expire-quiet H k m None r z = refl
expire-quiet H k m (Some b) r z = by_bound (bound_of H b)
  where
    by_bound : (o : Option Running) → Quiet (closes H k (change.Ended b cause.Idle (moment m)) o (λ d. Reply.expired d)).changes r z
    by_bound None = refl
    by_bound (Some x) = refl

end-quiet : (H : List Entry) (k : ℕ) (b m : ℕ) (o : Option Running) (r : ℕ) (z : SlotId) → Quiet (cond (is_binding b o) (closes H k (change.Ended b cause.Quit (moment m)) o (λ d. Reply.ended d)) (says Reply.no_session)).changes r z
end-quiet H k b m None r z = refl
end-quiet H k b m (Some x) r z = grind arith

sweep-quiet : (c : HubConfig) (H : List Entry) (k m r : ℕ) (z : SlotId) → Quiet (swept c H k m).changes r z
sweep-quiet c H k m r z =
    let A = lapses c H m in
    let G = after H k A in
    let B = suspicions c G m in
    let C = time_outs H m in
    let D = removals G m in
    let a : Quiet A r z = quiet-map (λ n. change.Lapsed n (moment m)) (lapsed_nodes c H m) r z (λ n. refl) in
    let b : Quiet B r z = quiet-map (λ n. change.Suspected n (moment m)) (silent_nodes c G m) r z (λ n. refl) in
    let t : Quiet C r z = quiet-map (λ n. change.TimedOut n (moment m)) (overdue_requests H m) r z (λ n. refl) in
    let d : Quiet D r z = quiet-map (λ n. change.Removed n (moment m)) (drained_nodes G) r z (λ n. refl) in
    quiet-append ((A ++ B) ++ C) D r z (quiet-append (A ++ B) C r z (quiet-append A B r z a b) t) d

-- where it comes from
abbrev Comes : List Entry → ℕ → Call → Answer → ℕ → SlotId → Type 0
Comes H k call a r z = is_good_reservation (after H k a.changes) k r z ≡ true → ((is_good_reservation H k r z ≡ true) × (hands_reservation call r z ≡ false)) ⊎ (gives_reservation a.reply r z ≡ true)

by_quiet : (H : List Entry) (k : ℕ) (call : Call) (a : Answer) (r : ℕ) (z : SlotId) → Quiet a.changes r z → hands_reservation call r z ≡ false → Comes H k call a r z
by_quiet H k call a r z quiet none good = inl (older H k a.changes r z quiet good, none)

dispatch-comes : (H : List Entry) (k : ℕ) (call : Call) (m : ℕ) (o : Option Assignment) (r : ℕ) (z : SlotId) (mine : Bool) → hands_reservation call r z ≡ false → Comes H k call (dispatched H k m o) r z
dispatch-comes H k call m None r z mine none good = inl (good, none)
dispatch-comes H k call m (Some a) r z mine none good = by_test (nat_eq a.request r && slot_eq a.slot z) refl
  where
    by_test : (t : Bool) → (nat_eq a.request r && slot_eq a.slot z) ≡ t → ((is_good_reservation H k r z ≡ true) × (hands_reservation call r z ≡ false)) ⊎ ((nat_eq a.request r && slot_eq a.slot z) ≡ true)
    by_test true e = inr e
    by_test false e = inl (older H k (reserves m a ∷ []) r z (rw e refl) good, none)

poll_open-comes : (H : List Entry) (k : ℕ) (call : Call) (q m : ℕ) (o : Option Assignment) (r : ℕ) (z : SlotId) → hands_reservation call r z ≡ false → Comes H k call (polled_open H k q m o) r z
poll_open-comes H k call q m None r z none good = inl (good, none)
poll_open-comes H k call q m (Some a) r z none good = by_own (nat_eq a.request q) good
  where
    of_mine : Reply → Bool
    of_mine reply = gives_reservation reply r z

    by_test : (t : Bool) → (nat_eq a.request r && slot_eq a.slot z) ≡ t → is_good_reservation (after H k (reserves m a ∷ [])) k r z ≡ true → ((is_good_reservation H k r z ≡ true) × (hands_reservation call r z ≡ false)) ⊎ ((nat_eq a.request r && slot_eq a.slot z) ≡ true)
    by_test true e h = inr e
    by_test false e h = inl (older H k (reserves m a ∷ []) r z (rw e refl) h, none)

    by_own : (t : Bool) → is_good_reservation (after H k (cond t (makes (reserves m a) (Reply.yours (ticket_of H q) (reserved H k m a))) (says (Reply.not_yet (ticket_of H q)))).changes) k r z ≡ true
        → ((is_good_reservation H k r z ≡ true) × (hands_reservation call r z ≡ false)) ⊎ (gives_reservation (cond t (makes (reserves m a) (Reply.yours (ticket_of H q) (reserved H k m a))) (says (Reply.not_yet (ticket_of H q)))).reply r z ≡ true)
    by_own true h = by_test (nat_eq a.request r && slot_eq a.slot z) refl h
    by_own false h = inl (h, none)

poll-comes : (H : List Entry) (k : ℕ) (call : Call) (q m : ℕ) (o : Option Outcome) (r : ℕ) (z : SlotId) → hands_reservation call r z ≡ false → Comes H k call (polled H k q m o) r z
poll-comes H k call q m (Some o) r z none good = inl (older H k (change.Taken q (moment m) ∷ []) r z refl good, none)
poll-comes H k call q m None r z none good = by_late (nat_le (deadline_of H q) m) good
  where
    late : Answer
    late = record { changes = change.TimedOut q (moment m) ∷ change.Taken q (moment m) ∷ []; reply = Reply.settled (outcome.TimedOut (moment (deadline_of H q))) }

    by_late : (t : Bool) → Comes H k call (cond t late (polled_open H k q m (chosen H m))) r z
    by_late true h = inl (older H k (change.TimedOut q (moment m) ∷ change.Taken q (moment m) ∷ []) r z refl h, none)
    by_late false h = poll_open-comes H k call q m (chosen H m) r z none h

withdraw-quiet : (H : List Entry) (q m : ℕ) (o : Option Outcome) (r : ℕ) (z : SlotId) → Quiet (withdrawn H q m o).changes r z
withdraw-quiet H q m (Some o) r z = refl
withdraw-quiet H q m None r z = grind arith

-- the slot of a reservation that was spent is not held
spent_now : (H : List Entry) (k : ℕ) (c : Change) (h : Holder) (r : ℕ) (z : SlotId) → holder_told H z (holder H z) c ≡ Some h → is_held_by r h ≡ false → is_good_reservation (record { caller = k; change = c } ∷ H) k r z ≡ false
spent_now H k c h r z told other = rw (told, other) refl

fail-comes : (H : List Entry) (k : ℕ) (call : Call) (q : ℕ) (s : SlotId) (w : FailWhy) (m r : ℕ) (z : SlotId) (mine : Bool) → (nat_eq q r && slot_eq s z) ≡ mine → hands_reservation call r z ≡ mine → Comes H k call (failed H q s w m) r z
fail-comes H k call q s w m r z true mine spent good = absurd (grind (arith, mine, good))
fail-comes H k call q s w m r z false mine spent good = inl (older H k (failed H q s w m).changes r z refl good, spent)

bind-comes : (H : List Entry) (k : ℕ) (call : Call) (q : ℕ) (s : SlotId) (x : List ℕ) (caps : List Cap) (m : ℕ) (o : Option FailWhy) (r : ℕ) (z : SlotId) (mine : Bool) → (nat_eq q r && slot_eq s z) ≡ mine → hands_reservation call r z ≡ mine
    → Comes H k call (bound_by H k q s x caps m o) r z
bind-comes H k call q s x caps m (Some w) r z true mine spent good = absurd (grind (arith, mine, good))
bind-comes H k call q s x caps m (Some w) r z false mine spent good = inl (older H k (bound_by H k q s x caps m (Some w)).changes r z refl good, spent)
bind-comes H k call q s x caps m None r z true mine spent good =
    let e : Entry = record { caller = k; change = change.Bound q s x caps (moment m) } in
    let quiet : Quiet (drain_after_bind (e ∷ H) s.node m) r z = grind arith in
    let before : is_good_reservation (e ∷ H) k r z ≡ true = older (e ∷ H) k (drain_after_bind (e ∷ H) s.node m) r z quiet good in
    absurd (grind (arith, mine, before))
bind-comes H k call q s x caps m None r z false mine spent good = inl (older H k (bound_by H k q s x caps m None).changes r z (grind arith) good, spent)

answer-comes : (c : HubConfig) (H : List Entry) (k : ℕ) (call : Call) (m r : ℕ) (z : SlotId) → Comes H k call (answer c H k call m) r z
answer-comes c H k (Call.register n) m r z good = by_quiet H k (Call.register n) (register_by c H n m (find (is_named H n.name) (nodes H))) r z (register-quiet c H n m (find (is_named H n.name) (nodes H)) r z) refl good
answer-comes c H k (Call.beat n name) m r z good = by_quiet H k (Call.beat n name) (answer c H k (Call.beat n name) m) r z (grind arith) refl good
answer-comes c H k (Call.drain n) m r z good = by_quiet H k (Call.drain n) (drained H n m) r z (drain-quiet H n m r z) refl good
answer-comes c H k (Call.remove n) m r z good = by_quiet H k (Call.remove n) (answer c H k (Call.remove n) m) r z (grind arith) refl good
answer-comes c H k (Call.enqueue choices) m r z good = by_quiet H k (Call.enqueue choices) (enqueued c H choices m) r z (enqueue-quiet c H choices m r z) refl good
answer-comes c H k (Call.poll t) m r z good = poll-comes H k (Call.poll t) t.request m (outcome_of H t.request) r z refl good
answer-comes c H k (Call.withdraw t) m r z good = by_quiet H k (Call.withdraw t) (withdrawn H t.request m (outcome_of H t.request)) r z (withdraw-quiet H t.request m (outcome_of H t.request) r z) refl good
answer-comes c H k Call.dispatch m r z good = dispatch-comes H k Call.dispatch m (chosen H m) r z true refl good
answer-comes c H k (Call.bind t x caps) m r z good = bind-comes H k (Call.bind t x caps) t.request t.slot x caps m (refusal_of H t.request t.slot x caps) r z (nat_eq t.request r && slot_eq t.slot z) refl refl good
answer-comes c H k (Call.fail t w) m r z good = fail-comes H k (Call.fail t w) t.request t.slot w m r z (nat_eq t.request r && slot_eq t.slot z) refl refl good
answer-comes c H k (Call.lookup x) m r z good = inl (good, refl)
answer-comes c H k (Call.touch x b) m r z good = by_quiet H k (Call.touch x b) (answer c H k (Call.touch x b) m) r z (grind arith) refl good
answer-comes c H k (Call.end x b) m r z good = by_quiet H k (Call.end x b) (answer c H k (Call.end x b) m) r z (end-quiet H k b m (live H x) r z) refl good
answer-comes c H k (Call.freed t) m r z good = by_quiet H k (Call.freed t) (answer c H k (Call.freed t) m) r z refl refl good
answer-comes c H k Call.sweep m r z good = by_quiet H k Call.sweep (swept c H k m) r z (sweep-quiet c H k m r z) refl good
answer-comes c H k Call.expire m r z good = by_quiet H k Call.expire (answer c H k Call.expire m) r z (expire-quiet H k m (least nat_lt (idle_bindings c H m)) r z) refl good
answer-comes c H k Call.clear m r z good = by_quiet H k Call.clear (cleared H m) r z (quiet-map (λ n. change.Cleared n (moment m)) (waiting_requests H) r z (λ n. refl)) refl good
answer-comes c H k Call.view m r z good = inl (good, refl)

pub reservations-come : ReservationsComeFromReplies
unfolding hub
reservations-come c H k call at r z good = answer-comes c H k call _ r z good

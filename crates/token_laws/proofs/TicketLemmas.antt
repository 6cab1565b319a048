-- Tickets come from the replies of enqueue and poll.
use Rattle.std.proofs.Common.{◌≡◌, ◌⊎◌, ℕ, Bool, true, false, cond, ◌||◌, nat_eq, nat_le, nat_lt, List, [], ◌∷◌, ◌++◌, map, refl, arith, inl, inr, Option, None, Some, find}
use Rattle.std.specs.List.{list_any}
use Rattle.grid_types.specs.declared.config.HubConfig.{HubConfig}
use Rattle.grid_types.specs.declared.entry.Entry.{Entry}
use Rattle.grid_types.specs.declared.entry.Change.{Change}
use Rattle.grid_types.specs.declared.entry.Change.TheVariants as change
use Rattle.grid_types.specs.declared.entry.EndCause.TheVariants as cause
use Rattle.grid_types.specs.declared.entry.FailWhy.{FailWhy}
use Rattle.grid_types.specs.declared.entry.Outcome.{Outcome}
use Rattle.grid_types.specs.declared.entry.Outcome.TheVariants as outcome
use Rattle.grid_types.specs.declared.capabilities.Cap.{Cap}
use Rattle.grid_types.specs.declared.capabilities.Registration.{Registration}
use Rattle.grid_types.specs.declared.names.SlotId.{SlotId}
use Rattle.grid_types.specs.History.{after, nodes}
use Rattle.grid_types.specs.Lists.{least}
use Rattle.grid_types.specs.Requests.{place, is_waiting, outcome_of, deadline_of, waiting_requests}
use Rattle.grid_types.specs.Bindings.{Running, bound_of}
use Rattle.grid_types.specs.Sessions.{live}
use Rattle.grid_types.specs.Choice.{Assignment, chosen}
use Rattle.grid_types.specs.Permitted.{is_named}
use Rattle.grid_types.specs.Tokens.{is_good_ticket, ticket_of}
use Rattle.grid_types.specs.Calls.{Call, Reply}
use Rattle.grid_types.specs.HandedIn.{hands_ticket}
use Rattle.grid_types.specs.HubAnswers.{Answer, says, moment, register_by, drained, enqueued, polled, polled_open, withdrawn, dispatched, bound_by, refusal_of, failed, is_binding, closes, expired_by, idle_bindings, lapses, lapsed_nodes, suspicions, silent_nodes, time_outs, overdue_requests, removals, drained_nodes, swept, cleared, hub, answer}
use Rattle.token_laws.specs.Gives.{gives_ticket, TicketsComeFromReplies}

-- a change that queues the request
abbrev queues : ℕ → Change → Bool
queues r (change.Queued named choices deadline at) = nat_eq named r
queues r c = false

step : (H : List Entry) (k : ℕ) (c : Change) (r : ℕ) → queues r c ≡ false → is_good_ticket (record { caller = k; change = c } ∷ H) k r ≡ true → is_good_ticket H k r ≡ true
step H k (change.Queued named choices deadline at) r none good = grind (arith, none, good)
step H k (change.Taken named at) r none good = grind (arith, good)
step H k c r none good = good

older : (H : List Entry) (k : ℕ) (cs : List Change) (r : ℕ) → list_any (queues r) cs ≡ false → is_good_ticket (after H k cs) k r ≡ true → is_good_ticket H k r ≡ true
older H k [] r none good = good
older H k (c ∷ cs) r none good = step H k c r (left (queues r c) (list_any (queues r) cs) none) (older (record { caller = k; change = c } ∷ H) k cs r (right (queues r c) (list_any (queues r) cs) none) good)
  where
    left : (a b : Bool) → (a || b) ≡ false → a ≡ false
    left a b e = grind (arith, e)

    right : (a b : Bool) → (a || b) ≡ false → b ≡ false
    right a b e = grind (arith, e)

-- no change of these queues a request
abbrev Quiet : List Change → ℕ → Type 0
Quiet cs r = list_any (queues r) cs ≡ false

quiet-map : (mk : ℕ → Change) (ns : List ℕ) (r : ℕ) → ((n : ℕ) → queues r (mk n) ≡ false) → Quiet (map mk ns) r
quiet-map mk [] r each = refl
quiet-map mk (n ∷ ns) r each = rw (each n, quiet-map mk ns r each) refl

quiet-append : (cs ds : List Change) (r : ℕ) → Quiet cs r → Quiet ds r → Quiet (cs ++ ds) r
quiet-append [] ds r first second = second
quiet-append (c ∷ cs) ds r first second = grind (arith, first, quiet-append cs ds r)

register-quiet : (c : HubConfig) (H : List Entry) (n : Registration) (m : ℕ) (o : Option ℕ) (r : ℕ) → Quiet (register_by c H n m o).changes r
register-quiet c H n m (Some k) r = refl
register-quiet c H n m None r = grind arith

drain-quiet : (H : List Entry) (n m r : ℕ) → Quiet (drained H n m).changes r
drain-quiet H n m r = grind arith

dispatch-quiet : (H : List Entry) (k m : ℕ) (o : Option Assignment) (r : ℕ) → Quiet (dispatched H k m o).changes r
dispatch-quiet H k m None r = refl
dispatch-quiet H k m (Some a) r = refl

bind-quiet : (H : List Entry) (k q : ℕ) (s : SlotId) (x : List ℕ) (caps : List Cap) (m : ℕ) (o : Option FailWhy) (r : ℕ) → Quiet (bound_by H k q s x caps m o).changes r
bind-quiet H k q s x caps m None r = grind arith
bind-quiet H k q s x caps m (Some w) r = refl

expire-quiet : (H : List Entry) (k m : ℕ) (o : Option ℕ) (r : ℕ) → Quiet (expired_by H k m o).changes r
expire-quiet H k m None r = refl
expire-quiet H k m (Some b) r = by_bound (bound_of H b)
  where
    by_bound : (o : Option Running) → Quiet (closes H k (change.Ended b cause.Idle (moment m)) o (λ d. Reply.expired d)).changes r
    by_bound None = refl
    by_bound (Some x) = refl

end-quiet : (H : List Entry) (k : ℕ) (b m : ℕ) (o : Option Running) (r : ℕ) → Quiet (cond (is_binding b o) (closes H k (change.Ended b cause.Quit (moment m)) o (λ d. Reply.ended d)) (says Reply.no_session)).changes r
end-quiet H k b m None r = refl
end-quiet H k b m (Some x) r = grind arith

sweep-quiet : (c : HubConfig) (H : List Entry) (k m r : ℕ) → Quiet (swept c H k m).changes r
sweep-quiet c H k m r =
    let A = lapses c H m in
    let G = after H k A in
    let B = suspicions c G m in
    let C = time_outs H m in
    let D = removals G m in
    let a : Quiet A r = quiet-map (λ n. change.Lapsed n (moment m)) (lapsed_nodes c H m) r (λ n. refl) in
    let b : Quiet B r = quiet-map (λ n. change.Suspected n (moment m)) (silent_nodes c G m) r (λ n. refl) in
    let t : Quiet C r = quiet-map (λ n. change.TimedOut n (moment m)) (overdue_requests H m) r (λ n. refl) in
    let d : Quiet D r = quiet-map (λ n. change.Removed n (moment m)) (drained_nodes G) r (λ n. refl) in
    quiet-append ((A ++ B) ++ C) D r (quiet-append (A ++ B) C r (quiet-append A B r a b) t) d

-- where it comes from
abbrev Comes : List Entry → ℕ → Call → Answer → ℕ → Type 0
Comes H k call a r = is_good_ticket (after H k a.changes) k r ≡ true → ((is_good_ticket H k r ≡ true) × (hands_ticket call r ≡ false)) ⊎ (gives_ticket a.reply r ≡ true)

by_quiet : (H : List Entry) (k : ℕ) (call : Call) (a : Answer) (r : ℕ) → Quiet a.changes r → hands_ticket call r ≡ false → Comes H k call a r
by_quiet H k call a r quiet none good = inl (older H k a.changes r quiet good, none)

enqueue-comes : (c : HubConfig) (H : List Entry) (k : ℕ) (choices : List (List Cap)) (m r : ℕ) → Comes H k (Call.enqueue choices) (enqueued c H choices m) r
enqueue-comes c H k choices m r good = grind (arith, good)

poll_open-comes : (H : List Entry) (k : ℕ) (call : Call) (q m r : ℕ) (o : Option Assignment) (mine : Bool) → nat_eq q r ≡ mine → hands_ticket call r ≡ mine → Comes H k call (polled_open H k q m o) r
poll_open-comes H k call q m r None true same handed good = inr same
poll_open-comes H k call q m r None false same handed good = inl (good, handed)
poll_open-comes H k call q m r (Some a) true same handed good = inr (grind (arith, same))
poll_open-comes H k call q m r (Some a) false same handed good = inl (older H k (polled_open H k q m (Some a)).changes r (grind arith) good, handed)

taken_now : (H : List Entry) (k q m r : ℕ) → nat_eq q r ≡ true → is_good_ticket (record { caller = k; change = change.Taken q (moment m) } ∷ H) k r ≡ true → ⊥
taken_now H k q m r same good = grind (arith, same, good)

poll_late-comes : (H : List Entry) (k : ℕ) (call : Call) (q m r : ℕ) (late mine : Bool) → nat_eq q r ≡ mine → hands_ticket call r ≡ mine →
    Comes H k call (cond late (record { changes = change.TimedOut q (moment m) ∷ change.Taken q (moment m) ∷ []; reply = Reply.settled (outcome.TimedOut (moment (deadline_of H q))) }) (polled_open H k q m (chosen H m))) r
poll_late-comes H k call q m r true true same handed good = absurd (taken_now (record { caller = k; change = change.TimedOut q (moment m) } ∷ H) k q m r same good)
poll_late-comes H k call q m r true false same handed good = inl (older H k (change.TimedOut q (moment m) ∷ change.Taken q (moment m) ∷ []) r refl good, handed)
poll_late-comes H k call q m r false mine same handed good = poll_open-comes H k call q m r (chosen H m) mine same handed good

poll-comes : (H : List Entry) (k : ℕ) (call : Call) (q m r : ℕ) (o : Option Outcome) (mine : Bool) → nat_eq q r ≡ mine → hands_ticket call r ≡ mine → Comes H k call (polled H k q m o) r
poll-comes H k call q m r (Some o) true same handed good = absurd (taken_now H k q m r same good)
poll-comes H k call q m r (Some o) false same handed good = inl (older H k (change.Taken q (moment m) ∷ []) r refl good, handed)
poll-comes H k call q m r None mine same handed good = poll_late-comes H k call q m r (nat_le (deadline_of H q) m) mine same handed good

withdraw_open-comes : (H : List Entry) (k : ℕ) (call : Call) (q m r : ℕ) (waits mine : Bool) → nat_eq q r ≡ mine → hands_ticket call r ≡ mine →
    Comes H k call (cond waits (record { changes = change.Cleared q (moment m) ∷ change.Taken q (moment m) ∷ []; reply = Reply.withdrawn }) (says (Reply.not_yet (ticket_of H q)))) r
withdraw_open-comes H k call q m r true true same handed good = absurd (taken_now (record { caller = k; change = change.Cleared q (moment m) } ∷ H) k q m r same good)
withdraw_open-comes H k call q m r true false same handed good = inl (older H k (change.Cleared q (moment m) ∷ change.Taken q (moment m) ∷ []) r refl good, handed)
withdraw_open-comes H k call q m r false true same handed good = inr same
withdraw_open-comes H k call q m r false false same handed good = inl (good, handed)

withdraw-comes : (H : List Entry) (k : ℕ) (call : Call) (q m r : ℕ) (o : Option Outcome) (mine : Bool) → nat_eq q r ≡ mine → hands_ticket call r ≡ mine → Comes H k call (withdrawn H q m o) r
withdraw-comes H k call q m r (Some o) true same handed good = absurd (taken_now H k q m r same good)
withdraw-comes H k call q m r (Some o) false same handed good = inl (older H k (change.Taken q (moment m) ∷ []) r refl good, handed)
withdraw-comes H k call q m r None mine same handed good = withdraw_open-comes H k call q m r (is_waiting (place H q)) mine same handed good

answer-comes : (c : HubConfig) (H : List Entry) (k : ℕ) (call : Call) (m r : ℕ) → Comes H k call (answer c H k call m) r
answer-comes c H k (Call.register n) m r good = by_quiet H k (Call.register n) (register_by c H n m (find (is_named H n.name) (nodes H))) r (register-quiet c H n m (find (is_named H n.name) (nodes H)) r) refl good
answer-comes c H k (Call.beat n name) m r good = by_quiet H k (Call.beat n name) (answer c H k (Call.beat n name) m) r (grind arith) refl good
answer-comes c H k (Call.drain n) m r good = by_quiet H k (Call.drain n) (drained H n m) r (drain-quiet H n m r) refl good
answer-comes c H k (Call.remove n) m r good = by_quiet H k (Call.remove n) (answer c H k (Call.remove n) m) r (grind arith) refl good
answer-comes c H k (Call.enqueue choices) m r good = enqueue-comes c H k choices m r good
answer-comes c H k (Call.poll t) m r good = poll-comes H k (Call.poll t) t.request m r (outcome_of H t.request) (nat_eq t.request r) refl refl good
answer-comes c H k (Call.withdraw t) m r good = withdraw-comes H k (Call.withdraw t) t.request m r (outcome_of H t.request) (nat_eq t.request r) refl refl good
answer-comes c H k Call.dispatch m r good = by_quiet H k Call.dispatch (dispatched H k m (chosen H m)) r (dispatch-quiet H k m (chosen H m) r) refl good
answer-comes c H k (Call.bind t x caps) m r good = by_quiet H k (Call.bind t x caps) (bound_by H k t.request t.slot x caps m (refusal_of H t.request t.slot x caps)) r (bind-quiet H k t.request t.slot x caps m (refusal_of H t.request t.slot x caps) r) refl good
answer-comes c H k (Call.fail t w) m r good = by_quiet H k (Call.fail t w) (failed H t.request t.slot w m) r refl refl good
answer-comes c H k (Call.lookup x) m r good = inl (good, refl)
answer-comes c H k (Call.touch x b) m r good = by_quiet H k (Call.touch x b) (answer c H k (Call.touch x b) m) r (grind arith) refl good
answer-comes c H k (Call.end x b) m r good = by_quiet H k (Call.end x b) (answer c H k (Call.end x b) m) r (end-quiet H k b m (live H x) r) refl good
answer-comes c H k (Call.freed t) m r good = by_quiet H k (Call.freed t) (answer c H k (Call.freed t) m) r refl refl good
answer-comes c H k Call.sweep m r good = by_quiet H k Call.sweep (swept c H k m) r (sweep-quiet c H k m r) refl good
answer-comes c H k Call.expire m r good = by_quiet H k Call.expire (answer c H k Call.expire m) r (expire-quiet H k m (least nat_lt (idle_bindings c H m)) r) refl good
answer-comes c H k Call.clear m r good = by_quiet H k Call.clear (cleared H m) r (quiet-map (λ n. change.Cleared n (moment m)) (waiting_requests H) r (λ n. refl)) refl good
answer-comes c H k Call.view m r good = inl (good, refl)

pub tickets-come : TicketsComeFromReplies
unfolding hub
tickets-come c H k call at r good = answer-comes c H k call _ r good

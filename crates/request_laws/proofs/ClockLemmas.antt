-- No call moves the clock past its moment, and a request waits no longer than it may.
use Rattle.std.proofs.Common.{◌≡◌, ℕ, max, Bool, true, false, cond, not, ◌&&◌, ◌||◌, ◌+◌, ◌≤◌, List, [], ◌∷◌, ◌++◌, map, length, refl, arith}
use Rattle.std.specs.Prelude.{Option, None, Some, unwrap_or, nat_eq, nat_le, nat_lt, find, ◌-◌, ◌^◌}
use Rattle.std.specs.List.{list_all}
use Rattle.grid_types.specs.declared.config.HubConfig.{HubConfig}
use Rattle.grid_types.specs.declared.entry.Entry.{Entry}
use Rattle.grid_types.specs.declared.entry.FailWhy.{FailWhy}
use Rattle.grid_types.specs.declared.entry.Change.{Change}
use Rattle.grid_types.specs.declared.entry.Change.TheVariants as change
use Rattle.grid_types.specs.declared.entry.EndCause.TheVariants as cause
use Rattle.grid_types.specs.declared.entry.Outcome.{Outcome}
use Rattle.grid_types.specs.declared.names.SlotId.{SlotId}
use Rattle.grid_types.specs.declared.capabilities.Cap.{Cap}
use Rattle.grid_types.specs.declared.capabilities.Registration.{Registration}
use Rattle.grid_types.specs.Lists.{least}
use Rattle.grid_types.specs.QueueTime.{queue_time}
use Rattle.grid_types.specs.History.{after, clock, moment_of, next_node, next_request, nodes}
use Rattle.grid_types.specs.Nodes.{is_base_up, is_draining, is_registered, is_spent}
use Rattle.grid_types.specs.Slots.{listed}
use Rattle.grid_types.specs.Bindings.{Running, bound_of}
use Rattle.grid_types.specs.Requests.{place, is_waiting, deadline_of, outcome_of, unsettled, unsettled_bytes, waiting_requests}
use Rattle.grid_types.specs.Sessions.{live}
use Rattle.grid_types.specs.Choice.{Assignment, chosen}
use Rattle.grid_types.specs.Permitted.{deadline_at, is_named, is_supported, most_bytes}
use Rattle.grid_types.specs.Capabilities.{request_bytes}
use Rattle.grid_types.specs.Tokens.{Closing, Ticket}
use Rattle.grid_types.specs.Calls.{Call, Reply}
use Rattle.grid_types.specs.HubAnswers.{Answer, after_call, answer, is_beat_of, bound, bound_by, refusal_of, closes, dispatched, drain_after_bind, drained_nodes, enqueued, expired_by, hub, idle_bindings, is_binding, lapsed_nodes, lapses, moment, overdue_requests, polled, polled_open, withdrawn, register_by, removals, silent_nodes, suspicions, time_outs}
use Rattle.grid_types.specs.Tables.{entry}
use Rattle.request_laws.proofs.CountLemmas.{never}

-- the change is made at the moment at the latest
abbrev is_by : ℕ → Change → Bool
is_by m c = nat_le (unwrap_or (moment_of c) 0) m

same : (m : ℕ) → nat_le m m ≡ true
same m = grind arith

both : (a b : Bool) → a ≡ true → b ≡ true → (a && b) ≡ true
both true true d e = refl
both false b d e = d
both true false d e = e

-- one change at the moment, or two
once : (m : ℕ) → (nat_le m m && true) ≡ true
once m = both (nat_le m m) true (same m) refl

twice : (m : ℕ) → (nat_le m m && (nat_le m m && true)) ≡ true
twice m = both (nat_le m m) (nat_le m m && true) (same m) (once m)

at_any : (m : ℕ) → (nat_le 0 m && true) ≡ true
at_any m = grind arith

abbrev AreBy : ℕ → List Change → Type 0
AreBy m cs = list_all (is_by m) cs ≡ true

second : (a b : Bool) → (a && b) ≡ true → b ≡ true
second true b e = e
second false b e = absurd (never e)

first : (a b : Bool) → (a && b) ≡ true → a ≡ true
first true b e = refl
first false b e = e

all_by : (H : List Entry) (k m : ℕ) (cs : List Change) → AreBy m cs → clock (after H k cs) ≤ max m (clock H)
all_by H k m [] o = grind arith
all_by H k m (c ∷ cs) o =
    let rest : clock (after (entry k c ∷ H) k cs) ≤ max m (clock (entry k c ∷ H)) = all_by (entry k c ∷ H) k m cs (second (is_by m c) (list_all (is_by m) cs) o) in
    let here : is_by m c ≡ true = first (is_by m c) (list_all (is_by m) cs) o in
    step (unwrap_or (moment_of c) 0) m (clock H) (clock (after (entry k c ∷ H) k cs)) here rest
  where
    step : (at m before later : ℕ) → nat_le at m ≡ true → later ≤ max m (max at before) → later ≤ max m before
    step at m before later e le = grind arith

mapped : (m : ℕ) (f : ℕ → Change) → ((n : ℕ) → is_by m (f n) ≡ true) → (xs : List ℕ) → AreBy m (map f xs)
mapped m f each [] = refl
mapped m f each (x ∷ xs) = both (is_by m (f x)) _ (each x) (mapped m f each xs)

joined : (m : ℕ) (cs ds : List Change) → AreBy m cs → AreBy m ds → AreBy m (cs ++ ds)
joined m [] ds p q = q
joined m (c ∷ cs) ds p q =
    both (is_by m c) _ (first (is_by m c) (list_all (is_by m) cs) p) (joined m cs ds (second (is_by m c) (list_all (is_by m) cs) p) q)

either : (m : ℕ) (b : Bool) (x y : Answer) → AreBy m x.changes → AreBy m y.changes → AreBy m (cond b x y).changes
either m true x y p q = p
either m false x y p q = q

registers : (c : HubConfig) (H : List Entry) (r : Registration) (m : ℕ) (o : Option ℕ) → AreBy m (register_by c H r m o).changes
registers c H r m (Some n) = refl
registers c H r m None =
    either m (nat_le 1_024 (length (listed H))) _ _ refl
    (either m (nat_le (2 ^ 32 - 1) (next_node c H)) _ _ refl (once m))

polls_open : (H : List Entry) (k r m : ℕ) (o : Option Assignment) → AreBy m (polled_open H k r m o).changes
polls_open H k r m None = refl
polls_open H k r m (Some a) = either m (nat_eq a.request r) _ _ (once m) refl

polls : (H : List Entry) (k r m : ℕ) (o : Option Outcome) → AreBy m (polled H k r m o).changes
polls H k r m (Some o) = once m
polls H k r m None = either m (nat_le (deadline_of H r) m) _ _ (twice m) (polls_open H k r m (chosen H m))

withdraws : (H : List Entry) (r m : ℕ) (o : Option Outcome) → AreBy m (withdrawn H r m o).changes
withdraws H r m (Some o) = once m
withdraws H r m None = either m (is_waiting (place H r)) _ _ (twice m) refl

dispatches : (H : List Entry) (k m : ℕ) (o : Option Assignment) → AreBy m (dispatched H k m o).changes
dispatches H k m None = refl
dispatches H k m (Some a) = once m

drains_after : (G : List Entry) (n m : ℕ) → AreBy m (drain_after_bind G n m)
drains_after G n m = by_test (is_spent G n && is_base_up G n)
  where
    by_test : (b : Bool) → AreBy m (cond b (change.Draining n (moment m) ∷ []) [])
    by_test true = once m
    by_test false = refl

binds_by : (H : List Entry) (k r : ℕ) (s : SlotId) (x : List ℕ) (caps : List Cap) (m : ℕ) (o : Option FailWhy) → AreBy m (bound_by H k r s x caps m o).changes
binds_by H k r s x caps m None = both (nat_le m m) _ (same m) (drains_after (after H k (change.Bound r s x caps (moment m) ∷ [])) s.node m)
binds_by H k r s x caps m (Some w) = once m

binds : (H : List Entry) (k r : ℕ) (s : SlotId) (x : List ℕ) (caps : List Cap) (m : ℕ) → AreBy m (bound H k r s x caps m).changes
binds H k r s x caps m = binds_by H k r s x caps m (refusal_of H r s x caps)

closes_one : (m : ℕ) (H : List Entry) (k : ℕ) (c : Change) (o : Option Running) (answer : Closing → Reply) → is_by m c ≡ true → AreBy m (closes H k c o answer).changes
closes_one m H k c None answer e = refl
closes_one m H k c (Some r) answer e = both (is_by m c) true e refl

expires : (H : List Entry) (k m : ℕ) (o : Option ℕ) → AreBy m (expired_by H k m o).changes
expires H k m None = refl
expires H k m (Some b) = closes_one m H k (change.Ended b cause.Idle (moment m)) (bound_of H b) Reply.expired (same m)

four : (m : ℕ) (a b d e : List Change) → AreBy m a → AreBy m b → AreBy m d → AreBy m e → AreBy m (a ++ b ++ d ++ e)
four m a b d e p q r s = joined m ((a ++ b) ++ d) e (joined m (a ++ b) d (joined m a b p q) r) s

sweeps : (c : HubConfig) (H : List Entry) (k m : ℕ) →
    AreBy m (lapses c H m ++ suspicions c (after H k (lapses c H m)) m ++ time_outs H m ++ removals (after H k (lapses c H m)) m)
sweeps c H k m =
    four m (lapses c H m) (suspicions c (after H k (lapses c H m)) m) (time_outs H m) (removals (after H k (lapses c H m)) m)
    (mapped m (λ n. change.Lapsed n (moment m)) (λ n. same m) (lapsed_nodes c H m))
    (mapped m (λ n. change.Suspected n (moment m)) (λ n. same m) (silent_nodes c (after H k (lapses c H m)) m))
    (mapped m (λ r. change.TimedOut r (moment m)) (λ n. same m) (overdue_requests H m))
    (mapped m (λ n. change.Removed n (moment m)) (λ n. same m) (drained_nodes (after H k (lapses c H m))))

are_by : (c : HubConfig) (H : List Entry) (k : ℕ) (call : Call) (m : ℕ) → AreBy m (answer c H k call m).changes
are_by c H k (Call.register r) m = registers c H r m (find (is_named H r.name) (nodes H))
are_by c H k (Call.beat n name) m = either m (is_beat_of H n name) _ _ (once m) refl
are_by c H k (Call.drain n) m = either m (is_base_up H n) _ _ (once m) (either m (is_draining H n) _ _ refl refl)
are_by c H k (Call.remove n) m = either m (is_registered H n) _ _ (once m) refl
are_by c H k (Call.enqueue choices) m =
    either m (nat_le (2 ^ 64 - 1) (next_request c H)) _ _ refl
    (either m (c.reject_unsupported && not (is_supported H choices)) _ _ refl
    (either m (nat_le c.queue_requests (length (unsettled H)) || nat_lt most_bytes (unsettled_bytes H + request_bytes choices)) _ _ refl (once m)))
are_by c H k (Call.poll t) m = polls H k t.request m (outcome_of H t.request)
are_by c H k (Call.withdraw t) m = withdraws H t.request m (outcome_of H t.request)
are_by c H k Call.dispatch m = dispatches H k m (chosen H m)
are_by c H k (Call.bind t x caps) m = binds H k t.request t.slot x caps m
are_by c H k (Call.fail t w) m = once m
are_by c H k (Call.lookup s) m = refl
are_by c H k (Call.touch s b) m = either m (is_binding b (live H s)) _ _ (once m) refl
are_by c H k (Call.end s b) m = either m (is_binding b (live H s)) _ _ (closes_one m H k (change.Ended b cause.Quit (moment m)) (live H s) Reply.ended (same m)) refl
are_by c H k (Call.freed t) m = at_any m
are_by c H k Call.sweep m = sweeps c H k m
are_by c H k Call.expire m = expires H k m (least nat_lt (idle_bindings c H m))
are_by c H k Call.clear m = mapped m (λ r. change.Cleared r (moment m)) (λ n. same m) (waiting_requests H)
are_by c H k Call.view m = refl

pub keeps_clock : (c : HubConfig) (H : List Entry) (k : ℕ) (call : Call) (at : ℕ) → clock (after_call c H k call at) ≤ max at (clock H)
unfolding hub
keeps_clock c H k call at =
    let m : ℕ = max at (clock H) in
    let by : clock (after H k (answer c H k call m).changes) ≤ max m (clock H) = all_by H k m (answer c H k call m).changes (are_by c H k call m) in
    grind arith

-- ---- a request that is queued

abbrev WaitsAtMost : List Entry → ℕ → ℕ → Answer → Type 0
WaitsAtMost H k most a = (t : Ticket) → a.reply ≡ Reply.queued t → deadline_of (after H k a.changes) t.request ≤ most

either_waits : (H : List Entry) (k most : ℕ) (b : Bool) (x y : Answer) → WaitsAtMost H k most x → WaitsAtMost H k most y → WaitsAtMost H k most (cond b x y)
either_waits H k most true x y p q = p
either_waits H k most false x y p q = q

queues : (c : HubConfig) (H : List Entry) (k : ℕ) (choices : List (List Cap)) (m : ℕ) → WaitsAtMost H k (m + queue_time c choices) (enqueued c H choices m)
queues c H k choices m =
    either_waits H k _ (nat_le (2 ^ 64 - 1) (next_request c H)) _ _ (λ t e. absurd cc)
    (either_waits H k _ (c.reject_unsupported && not (is_supported H choices)) _ _ (λ t e. absurd cc)
    (either_waits H k _ (nat_le c.queue_requests (length (unsettled H)) || nat_lt most_bytes (unsettled_bytes H + request_bytes choices)) _ _ (λ t e. absurd cc)
    (λ t e. queued_waits t e)))
  where
    queued_waits : (t : Ticket) → Reply.queued (record { request = next_request c H; deadline = deadline_at c choices m }) ≡ Reply.queued t →
        deadline_of (after H k (change.Queued (next_request c H) choices (moment (deadline_at c choices m)) (moment m) ∷ [])) t.request ≤ m + queue_time c choices
    queued_waits t e =
        let same_request : next_request c H ≡ t.request = cc in
        let here : nat_eq (next_request c H) t.request ≡ true = grind arith in
        grind arith

pub queued_deadline : (c : HubConfig) (H : List Entry) (k : ℕ) (choices : List (List Cap)) (at : ℕ) (t : Ticket) → (hub c H k (Call.enqueue choices) at).reply ≡ Reply.queued t →
    deadline_of (after_call c H k (Call.enqueue choices) at) t.request ≤ max at (clock H) + queue_time c choices
unfolding hub
queued_deadline c H k choices at t e = queues c H k choices (max at (clock H)) t e

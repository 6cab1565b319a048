-- Which request was queued last.
use Rattle.std.proofs.Common.{◌≡◌, ℕ, max, Bool, true, false, cond, not, ◌&&◌, ◌||◌, ◌+◌, List, [], ◌∷◌, ◌++◌, map, length, refl, sym, ◌∙◌, arith}
use Rattle.std.specs.Prelude.{Option, None, Some, nat_eq, nat_le, nat_lt, find, ◌-◌, ◌^◌}
use Rattle.std.specs.List.{list_all}
use Rattle.grid_types.specs.declared.config.HubConfig.{HubConfig}
use Rattle.grid_types.specs.declared.entry.Entry.{Entry}
use Rattle.grid_types.specs.declared.entry.FailWhy.{FailWhy}
use Rattle.grid_types.specs.declared.entry.Change.{Change}
use Rattle.grid_types.specs.declared.entry.Change.TheVariants as change
use Rattle.grid_types.specs.declared.entry.EndCause.TheVariants as cause
use Rattle.grid_types.specs.declared.entry.Outcome.{Outcome}
use Rattle.grid_types.specs.declared.names.SlotId.{SlotId}
use Rattle.grid_types.specs.declared.capabilities.Cap.{Cap}
use Rattle.grid_types.specs.declared.capabilities.Registration.{Registration}
use Rattle.grid_types.specs.Lists.{least}
use Rattle.grid_types.specs.History.{after, clock, next_node, next_request, nodes}
use Rattle.grid_types.specs.Nodes.{is_base_up, is_draining, is_registered, is_spent}
use Rattle.grid_types.specs.Slots.{listed}
use Rattle.grid_types.specs.Bindings.{Running, bound_of}
use Rattle.grid_types.specs.Requests.{place, is_waiting, deadline_of, outcome_of, unsettled, unsettled_bytes, waiting_requests}
use Rattle.grid_types.specs.Sessions.{live}
use Rattle.grid_types.specs.Choice.{Assignment, chosen}
use Rattle.grid_types.specs.Permitted.{is_named, is_supported, most_bytes}
use Rattle.grid_types.specs.Capabilities.{request_bytes}
use Rattle.grid_types.specs.Tokens.{Closing, Ticket}
use Rattle.grid_types.specs.Calls.{Call, Reply}
use Rattle.grid_types.specs.HubAnswers.{Answer, after_call, answer, is_beat_of, bound, bound_by, refusal_of, closes, dispatched, drain_after_bind, drained_nodes, enqueued, expired_by, hub, idle_bindings, is_binding, lapsed_nodes, lapses, moment, overdue_requests, polled, polled_open, withdrawn, register_by, removals, silent_nodes, suspicions, time_outs}
use Rattle.grid_types.specs.Tables.{entry}
use Rattle.request_laws.specs.Starts.{newest_request}
use Rattle.request_laws.specs.Laws.{is_enqueue}
use Rattle.request_laws.proofs.CountLemmas.{never}

-- the change queues no request
abbrev is_other : Change → Bool
is_other (change.Queued r choices d at) = false
is_other c = true

abbrev AreOthers : List Change → Type 0
AreOthers cs = list_all is_other cs ≡ true

one_keeps : (H : List Entry) (k : ℕ) (c : Change) → is_other c ≡ true → newest_request (entry k c ∷ H) ≡ newest_request H
one_keeps H k (change.Queued r choices d at) e = absurd (never e)
one_keeps H k c e = refl

second : (a b : Bool) → (a && b) ≡ true → b ≡ true
second true b e = e
second false b e = absurd (never e)

first : (a b : Bool) → (a && b) ≡ true → a ≡ true
first true b e = refl
first false b e = e

all_keep : (H : List Entry) (k : ℕ) (cs : List Change) → AreOthers cs → newest_request (after H k cs) ≡ newest_request H
all_keep H k [] o = refl
all_keep H k (c ∷ cs) o = all_keep (entry k c ∷ H) k cs (second (is_other c) (list_all is_other cs) o) ∙ one_keeps H k c (first (is_other c) (list_all is_other cs) o)

mapped : (f : ℕ → Change) → ((n : ℕ) → is_other (f n) ≡ true) → (xs : List ℕ) → AreOthers (map f xs)
mapped f each [] = refl
mapped f each (x ∷ xs) = grind (arith, each x, mapped f each xs)

joined : (cs ds : List Change) → AreOthers cs → AreOthers ds → AreOthers (cs ++ ds)
joined [] ds p q = q
joined (c ∷ cs) ds p q = grind (arith, joined cs ds (second (is_other c) (list_all is_other cs) p) q, p)

either : (b : Bool) (x y : Answer) → AreOthers x.changes → AreOthers y.changes → AreOthers (cond b x y).changes
either true x y p q = p
either false x y p q = q

registers : (c : HubConfig) (H : List Entry) (r : Registration) (m : ℕ) (o : Option ℕ) → AreOthers (register_by c H r m o).changes
registers c H r m (Some n) = refl
registers c H r m None =
    either (nat_le 1_024 (length (listed H))) _ _ refl
    (either (nat_le (2 ^ 32 - 1) (next_node c H)) _ _ refl refl)

polls_open : (H : List Entry) (k r m : ℕ) (o : Option Assignment) → AreOthers (polled_open H k r m o).changes
polls_open H k r m None = refl
polls_open H k r m (Some a) = either (nat_eq a.request r) _ _ refl refl

polls : (H : List Entry) (k r m : ℕ) (o : Option Outcome) → AreOthers (polled H k r m o).changes
polls H k r m (Some o) = refl
polls H k r m None = either (nat_le (deadline_of H r) m) _ _ refl (polls_open H k r m (chosen H m))

withdraws : (H : List Entry) (r m : ℕ) (o : Option Outcome) → AreOthers (withdrawn H r m o).changes
withdraws H r m (Some o) = refl
withdraws H r m None = either (is_waiting (place H r)) _ _ refl refl

dispatches : (H : List Entry) (k m : ℕ) (o : Option Assignment) → AreOthers (dispatched H k m o).changes
dispatches H k m None = refl
dispatches H k m (Some a) = refl

drains_after : (G : List Entry) (n m : ℕ) → AreOthers (drain_after_bind G n m)
drains_after G n m = by_test (is_spent G n && is_base_up G n)
  where
    by_test : (b : Bool) → AreOthers (cond b (change.Draining n (moment m) ∷ []) [])
    by_test true = refl
    by_test false = refl

binds_by : (H : List Entry) (k r : ℕ) (s : SlotId) (x : List ℕ) (caps : List Cap) (m : ℕ) (o : Option FailWhy) → AreOthers (bound_by H k r s x caps m o).changes
binds_by H k r s x caps m None = drains_after (after H k (change.Bound r s x caps (moment m) ∷ [])) s.node m
binds_by H k r s x caps m (Some w) = refl

binds : (H : List Entry) (k r : ℕ) (s : SlotId) (x : List ℕ) (caps : List Cap) (m : ℕ) → AreOthers (bound H k r s x caps m).changes
binds H k r s x caps m = binds_by H k r s x caps m (refusal_of H r s x caps)

closes_one : (H : List Entry) (k b : ℕ) (c : Change) (o : Option Running) (answer : Closing → Reply) → is_other c ≡ true → AreOthers (closes H k c o answer).changes
closes_one H k b c None answer e = refl
closes_one H k b c (Some r) answer e = grind arith

expires : (H : List Entry) (k m : ℕ) (o : Option ℕ) → AreOthers (expired_by H k m o).changes
expires H k m None = refl
expires H k m (Some b) = closes_one H k b (change.Ended b cause.Idle (moment m)) (bound_of H b) Reply.expired refl

four : (a b d e : List Change) → AreOthers a → AreOthers b → AreOthers d → AreOthers e → AreOthers (a ++ b ++ d ++ e)
four a b d e p q r s = joined ((a ++ b) ++ d) e (joined (a ++ b) d (joined a b p q) r) s

sweeps : (c : HubConfig) (H : List Entry) (k m : ℕ) →
    AreOthers (lapses c H m ++ suspicions c (after H k (lapses c H m)) m ++ time_outs H m ++ removals (after H k (lapses c H m)) m)
sweeps c H k m =
    four (lapses c H m) (suspicions c (after H k (lapses c H m)) m) (time_outs H m) (removals (after H k (lapses c H m)) m)
    (mapped (λ n. change.Lapsed n (moment m)) (λ n. refl) (lapsed_nodes c H m))
    (mapped (λ n. change.Suspected n (moment m)) (λ n. refl) (silent_nodes c (after H k (lapses c H m)) m))
    (mapped (λ r. change.TimedOut r (moment m)) (λ n. refl) (overdue_requests H m))
    (mapped (λ n. change.Removed n (moment m)) (λ n. refl) (drained_nodes (after H k (lapses c H m))))

are_others : (c : HubConfig) (H : List Entry) (k : ℕ) (call : Call) (m : ℕ) → is_enqueue call ≡ false → AreOthers (answer c H k call m).changes
are_others c H k (Call.register r) m e = registers c H r m (find (is_named H r.name) (nodes H))
are_others c H k (Call.beat n name) m e = either (is_beat_of H n name) _ _ refl refl
are_others c H k (Call.drain n) m e = either (is_base_up H n) _ _ refl (either (is_draining H n) _ _ refl refl)
are_others c H k (Call.remove n) m e = either (is_registered H n) _ _ refl refl
are_others c H k (Call.enqueue choices) m e = absurd (never (sym e))
are_others c H k (Call.poll t) m e = polls H k t.request m (outcome_of H t.request)
are_others c H k (Call.withdraw t) m e = withdraws H t.request m (outcome_of H t.request)
are_others c H k Call.dispatch m e = dispatches H k m (chosen H m)
are_others c H k (Call.bind t x caps) m e = binds H k t.request t.slot x caps m
are_others c H k (Call.fail t w) m e = refl
are_others c H k (Call.lookup s) m e = refl
are_others c H k (Call.touch s b) m e = either (is_binding b (live H s)) _ _ refl refl
are_others c H k (Call.end s b) m e = either (is_binding b (live H s)) _ _ (closes_one H k b (change.Ended b cause.Quit (moment m)) (live H s) Reply.ended refl) refl
are_others c H k (Call.freed t) m e = refl
are_others c H k Call.sweep m e = sweeps c H k m
are_others c H k Call.expire m e = expires H k m (least nat_lt (idle_bindings c H m))
are_others c H k Call.clear m e = mapped (λ r. change.Cleared r (moment m)) (λ n. refl) (waiting_requests H)
are_others c H k Call.view m e = refl

pub others : (c : HubConfig) (H : List Entry) (k : ℕ) (call : Call) (at : ℕ) → is_enqueue call ≡ false → newest_request (after_call c H k call at) ≡ newest_request H
unfolding hub
others c H k call at e = all_keep H k (answer c H k call (max at (clock H))).changes (are_others c H k call (max at (clock H)) e)

one_keeps_deadline : (H : List Entry) (k q : ℕ) (c : Change) → is_other c ≡ true → deadline_of (entry k c ∷ H) q ≡ deadline_of H q
one_keeps_deadline H k q (change.Queued r choices d at) e = absurd (never e)
one_keeps_deadline H k q c e = refl

all_keep_deadline : (H : List Entry) (k q : ℕ) (cs : List Change) → AreOthers cs → deadline_of (after H k cs) q ≡ deadline_of H q
all_keep_deadline H k q [] o = refl
all_keep_deadline H k q (c ∷ cs) o =
    all_keep_deadline (entry k c ∷ H) k q cs (second (is_other c) (list_all is_other cs) o) ∙ one_keeps_deadline H k q c (first (is_other c) (list_all is_other cs) o)

pub deadlines : (c : HubConfig) (H : List Entry) (k : ℕ) (call : Call) (at q : ℕ) → is_enqueue call ≡ false → deadline_of (after_call c H k call at) q ≡ deadline_of H q
unfolding hub
deadlines c H k call at q e = all_keep_deadline H k q (answer c H k call (max at (clock H))).changes (are_others c H k call (max at (clock H)) e)

-- ---- a request that is queued

abbrev IsNewest : List Entry → ℕ → Answer → Type 0
IsNewest H k a = (t : Ticket) → a.reply ≡ Reply.queued t → newest_request (after H k a.changes) ≡ t.request

either_newest : (H : List Entry) (k : ℕ) (b : Bool) (x y : Answer) → IsNewest H k x → IsNewest H k y → IsNewest H k (cond b x y)
either_newest H k true x y p q = p
either_newest H k false x y p q = q

queues : (c : HubConfig) (H : List Entry) (k : ℕ) (choices : List (List Cap)) (m : ℕ) → IsNewest H k (enqueued c H choices m)
queues c H k choices m =
    either_newest H k (nat_le (2 ^ 64 - 1) (next_request c H)) _ _ (λ t e. absurd cc)
    (either_newest H k (c.reject_unsupported && not (is_supported H choices)) _ _ (λ t e. absurd cc)
    (either_newest H k (nat_le c.queue_requests (length (unsettled H)) || nat_lt most_bytes (unsettled_bytes H + request_bytes choices)) _ _ (λ t e. absurd cc)
    (λ t e. grind arith)))

pub queued : (c : HubConfig) (H : List Entry) (k : ℕ) (choices : List (List Cap)) (at : ℕ) (t : Ticket) → (hub c H k (Call.enqueue choices) at).reply ≡ Reply.queued t →
    newest_request (after_call c H k (Call.enqueue choices) at) ≡ t.request
unfolding hub
queued c H k choices at t e = queues c H k choices (max at (clock H)) t e

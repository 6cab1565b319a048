-- What each call made, but for those that spend a reservation.
use Rattle.std.proofs.Common.{◌≡◌, ℕ, ◌+◌, ◌-◌, ◌^◌, Bool, true, false, cond, not, ◌&&◌, ◌||◌, max, List, [], ◌∷◌, length, refl}
use Rattle.std.specs.Prelude.{Option, None, Some, nat_eq, nat_lt, nat_le, is_some, find}
use Rattle.grid_types.specs.declared.config.HubConfig.{HubConfig}
use Rattle.grid_types.specs.declared.entry.Entry.{Entry}
use Rattle.grid_types.specs.declared.entry.Change.TheVariants as change
use Rattle.grid_types.specs.declared.entry.EndCause.TheVariants as cause
use Rattle.grid_types.specs.declared.entry.Outcome.{Outcome}
use Rattle.grid_types.specs.declared.entry.Outcome.TheVariants as outcome
use Rattle.grid_types.specs.declared.capabilities.Cap.{Cap}
use Rattle.grid_types.specs.declared.capabilities.Registration.{Registration}
use Rattle.grid_types.specs.Capabilities.{request_bytes}
use Rattle.grid_types.specs.Lists.{least}
use Rattle.grid_types.specs.History.{clock, nodes, next_node, next_request}
use Rattle.grid_types.specs.HistoryLaws.{Known, laws}
use Rattle.grid_types.specs.Nodes.{is_registered, is_base_up, is_draining}
use Rattle.grid_types.specs.Slots.{listed}
use Rattle.grid_types.specs.Requests.{place, is_waiting, outcome_of, deadline_of, is_settled, unsettled, unsettled_bytes}
use Rattle.grid_types.specs.Bindings.{Running, bound_of}
use Rattle.grid_types.specs.Sessions.{live}
use Rattle.grid_types.specs.Choice.{Assignment, chosen}
use Rattle.grid_types.specs.Permitted.{is_named, is_supported, deadline_at, most_bytes}
use Rattle.grid_types.specs.Tokens.{Ticket, Closing, ticket_of}
use Rattle.grid_types.specs.Calls.{Call, Reply}
use Rattle.grid_types.specs.HubAnswers.{Answer, closes, dispatched, expired_by, hub, idle_bindings, is_beat_of, is_binding, makes, moment, polled, polled_open, register_by, reserved, reserves, says, withdrawn}
use Rattle.reply_laws.specs.Made.{Makes, register_made, beat_made, drain_made, remove_made, enqueue_made, reserved_by, poll_made, withdraw_made, dispatch_made, touch_made, end_made, expire_made}

pub register_makes : (c : HubConfig) (H : List Entry) (k at : ℕ) (r : Registration) → Makes c H k (Call.register r) at (register_made r)
unfolding hub
register_makes c H k at r = by_name (max at (clock H)) (find (is_named H r.name) (nodes H))
  where
    by_tests : (m n : ℕ) (u v : Bool) → (cond u (says (Reply.nodes_full 1_024)) (cond v (says Reply.numbers_spent) (makes (change.Registered n r (moment m)) (Reply.registered n)))).changes
        ≡ register_made r (moment m) (cond u (says (Reply.nodes_full 1_024)) (cond v (says Reply.numbers_spent) (makes (change.Registered n r (moment m)) (Reply.registered n)))).reply
    by_tests m n true v = refl
    by_tests m n false true = refl
    by_tests m n false false = refl

    by_name : (m : ℕ) (o : Option ℕ) → (register_by c H r m o).changes ≡ register_made r (moment m) (register_by c H r m o).reply
    by_name m (Some n) = refl
    by_name m None = by_tests m (next_node c H) (nat_le 1_024 (length (listed H))) (nat_le (2 ^ 32 - 1) (next_node c H))

pub beat_makes : (c : HubConfig) (H : List Entry) (k at n : ℕ) (name : Option (List ℕ)) → Makes c H k (Call.beat n name) at (beat_made n)
unfolding hub
beat_makes c H k at n name = by_test (max at (clock H)) (is_beat_of H n name)
  where
    by_test : (m : ℕ) (v : Bool) → (cond v (makes (change.Beaten n (moment m)) Reply.beaten) (says Reply.no_node)).changes
        ≡ beat_made n (moment m) (cond v (makes (change.Beaten n (moment m)) Reply.beaten) (says Reply.no_node)).reply
    by_test m true = refl
    by_test m false = refl

pub drain_makes : (c : HubConfig) (H : List Entry) (k at n : ℕ) → Makes c H k (Call.drain n) at (λ now reply. drain_made n (is_base_up H n) now)
unfolding hub
drain_makes c H k at n = by_tests (max at (clock H)) (is_base_up H n) (is_draining H n)
  where
    by_tests : (m : ℕ) (u v : Bool) → (cond u (makes (change.Draining n (moment m)) Reply.draining) (cond v (says Reply.draining) (says Reply.no_node))).changes ≡ drain_made n u (moment m)
    by_tests m true v = refl
    by_tests m false true = refl
    by_tests m false false = refl

pub remove_makes : (c : HubConfig) (H : List Entry) (k at n : ℕ) → Makes c H k (Call.remove n) at (remove_made n)
unfolding hub
remove_makes c H k at n = by_test (max at (clock H)) (is_registered H n)
  where
    by_test : (m : ℕ) (v : Bool) → (cond v (makes (change.Removed n (moment m)) Reply.removed) (says Reply.no_node)).changes
        ≡ remove_made n (moment m) (cond v (makes (change.Removed n (moment m)) Reply.removed) (says Reply.no_node)).reply
    by_test m true = refl
    by_test m false = refl

pub enqueue_makes : (c : HubConfig) (H : List Entry) (k at : ℕ) (choices : List (List Cap)) → Makes c H k (Call.enqueue choices) at (enqueue_made choices)
unfolding hub
enqueue_makes c H k at choices = by_tests (max at (clock H)) (nat_le (2 ^ 64 - 1) (next_request c H)) (c.reject_unsupported && not (is_supported H choices))
    (nat_le c.queue_requests (length (unsettled H)) || nat_lt most_bytes (unsettled_bytes H + request_bytes choices))
  where
    by_tests : (m : ℕ) (u v w : Bool) → (cond u (says Reply.numbers_spent) (cond v (says Reply.unsupported) (cond w (says (Reply.queue_full (length (unsettled H)) (unsettled_bytes H)))
        (makes (change.Queued (next_request c H) choices (moment (deadline_at c choices m)) (moment m)) (Reply.queued (record { request = next_request c H; deadline = deadline_at c choices m })))))).changes
        ≡ enqueue_made choices (moment m) (cond u (says Reply.numbers_spent) (cond v (says Reply.unsupported) (cond w (says (Reply.queue_full (length (unsettled H)) (unsettled_bytes H)))
        (makes (change.Queued (next_request c H) choices (moment (deadline_at c choices m)) (moment m)) (Reply.queued (record { request = next_request c H; deadline = deadline_at c choices m })))))).reply
    by_tests m true v w = refl
    by_tests m false true w = refl
    by_tests m false false true = refl
    by_tests m false false false = refl

-- what a reservation's token tells of its entry
token_tells : Known → (H : List Entry) (k m : ℕ) (a : Assignment) → reserves m a ∷ [] ≡ reserved_by (moment m) (reserved H k m a)
token_tells proved H k m a = rw ((laws proved).slot_eq-same a.slot) refl

pub dispatch_makes : Known → (c : HubConfig) (H : List Entry) (k at : ℕ) → Makes c H k Call.dispatch at dispatch_made
unfolding hub
dispatch_makes proved c H k at = by_choice (max at (clock H)) (chosen H (max at (clock H)))
  where
    by_choice : (m : ℕ) (o : Option Assignment) → (dispatched H k m o).changes ≡ dispatch_made (moment m) (dispatched H k m o).reply
    by_choice m None = refl
    by_choice m (Some a) = token_tells proved H k m a

pub poll_makes : Known → (c : HubConfig) (H : List Entry) (k at : ℕ) (t : Ticket) → Makes c H k (Call.poll t) at (poll_made t.request (is_settled H t.request))
unfolding hub
poll_makes proved c H k at t = by_outcome (max at (clock H)) (outcome_of H t.request)
  where
    by_request : (m : ℕ) (a : Assignment) (v : Bool) → (cond v (makes (reserves m a) (Reply.yours (ticket_of H t.request) (reserved H k m a))) (says (Reply.not_yet (ticket_of H t.request)))).changes
        ≡ poll_made t.request false (moment m) (cond v (makes (reserves m a) (Reply.yours (ticket_of H t.request) (reserved H k m a))) (says (Reply.not_yet (ticket_of H t.request)))).reply
    by_request m a true = token_tells proved H k m a
    by_request m a false = refl

    by_choice : (m : ℕ) (o : Option Assignment) → (polled_open H k t.request m o).changes ≡ poll_made t.request false (moment m) (polled_open H k t.request m o).reply
    by_choice m None = refl
    by_choice m (Some a) = by_request m a (nat_eq a.request t.request)

    by_deadline : (m : ℕ) (v : Bool) (a : Answer) → a.changes ≡ poll_made t.request false (moment m) a.reply →
        (cond v (record { changes = change.TimedOut t.request (moment m) ∷ change.Taken t.request (moment m) ∷ []; reply = Reply.settled (outcome.TimedOut (moment (deadline_of H t.request))) }) a).changes
        ≡ poll_made t.request false (moment m) (cond v (record { changes = change.TimedOut t.request (moment m) ∷ change.Taken t.request (moment m) ∷ []; reply = Reply.settled (outcome.TimedOut (moment (deadline_of H t.request))) }) a).reply
    by_deadline m true a h = refl
    by_deadline m false a h = h

    by_outcome : (m : ℕ) (o : Option Outcome) → (polled H k t.request m o).changes ≡ poll_made t.request (is_some o) (moment m) (polled H k t.request m o).reply
    by_outcome m (Some o) = refl
    by_outcome m None = by_deadline m (nat_le (deadline_of H t.request) m) (polled_open H k t.request m (chosen H m)) (by_choice m (chosen H m))

pub withdraw_makes : (c : HubConfig) (H : List Entry) (k at : ℕ) (t : Ticket) → Makes c H k (Call.withdraw t) at (withdraw_made t.request)
unfolding hub
withdraw_makes c H k at t = by_outcome (max at (clock H)) (outcome_of H t.request)
  where
    by_place : (m : ℕ) (v : Bool) → (cond v (record { changes = change.Cleared t.request (moment m) ∷ change.Taken t.request (moment m) ∷ []; reply = Reply.withdrawn }) (says (Reply.not_yet (ticket_of H t.request)))).changes
        ≡ withdraw_made t.request (moment m) (cond v (record { changes = change.Cleared t.request (moment m) ∷ change.Taken t.request (moment m) ∷ []; reply = Reply.withdrawn }) (says (Reply.not_yet (ticket_of H t.request)))).reply
    by_place m true = refl
    by_place m false = refl

    by_outcome : (m : ℕ) (o : Option Outcome) → (withdrawn H t.request m o).changes ≡ withdraw_made t.request (moment m) (withdrawn H t.request m o).reply
    by_outcome m (Some o) = refl
    by_outcome m None = by_place m (is_waiting (place H t.request))

pub touch_makes : (c : HubConfig) (H : List Entry) (k at : ℕ) (x : List ℕ) (b : ℕ) → Makes c H k (Call.touch x b) at (touch_made b)
unfolding hub
touch_makes c H k at x b = by_test (max at (clock H)) (is_binding b (live H x))
  where
    by_test : (m : ℕ) (v : Bool) → (cond v (makes (change.Touched b (moment m)) Reply.touched) (says Reply.no_session)).changes
        ≡ touch_made b (moment m) (cond v (makes (change.Touched b (moment m)) Reply.touched) (says Reply.no_session)).reply
    by_test m true = refl
    by_test m false = refl

pub end_makes : (c : HubConfig) (H : List Entry) (k at : ℕ) (x : List ℕ) (b : ℕ) → Makes c H k (Call.end x b) at (end_made b)
unfolding hub
end_makes c H k at x b = by_test (max at (clock H)) (is_binding b (live H x)) (closes H k (change.Ended b cause.Quit (moment (max at (clock H)))) (live H x) (λ d. Reply.ended d)) (by_running (max at (clock H)) (live H x))
  where
    by_running : (m : ℕ) (o : Option Running) → (closes H k (change.Ended b cause.Quit (moment m)) o (λ d. Reply.ended d)).changes
        ≡ end_made b (moment m) (closes H k (change.Ended b cause.Quit (moment m)) o (λ d. Reply.ended d)).reply
    by_running m None = refl
    by_running m (Some r) = refl

    by_test : (m : ℕ) (v : Bool) (a : Answer) → a.changes ≡ end_made b (moment m) a.reply → (cond v a (says Reply.no_session)).changes ≡ end_made b (moment m) (cond v a (says Reply.no_session)).reply
    by_test m true a h = h
    by_test m false a h = refl

pub freed_makes : (c : HubConfig) (H : List Entry) (k at : ℕ) (d : Closing) → (hub c H k (Call.freed d) at).changes ≡ change.Freed d.slot ∷ []
unfolding hub
freed_makes c H k at d = refl

pub expire_makes : (c : HubConfig) (H : List Entry) (k at : ℕ) → Makes c H k Call.expire at (expire_made (least nat_lt (idle_bindings c H (max at (clock H)))))
unfolding hub
expire_makes c H k at = by_choice (max at (clock H)) (least nat_lt (idle_bindings c H (max at (clock H))))
  where
    by_running : (m b : ℕ) (o : Option Running) → (closes H k (change.Ended b cause.Idle (moment m)) o (λ d. Reply.expired d)).changes
        ≡ expire_made (Some b) (moment m) (closes H k (change.Ended b cause.Idle (moment m)) o (λ d. Reply.expired d)).reply
    by_running m b None = refl
    by_running m b (Some r) = refl

    by_choice : (m : ℕ) (o : Option ℕ) → (expired_by H k m o).changes ≡ expire_made o (moment m) (expired_by H k m o).reply
    by_choice m None = refl
    by_choice m (Some b) = by_running m b (bound_of H b)

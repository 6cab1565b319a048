-- What the hub of one thread does at a call: the changes that it makes, in order, and its reply.
use Rattle.std.specs.Prelude.{ℕ, ◌+◌, ◌-◌, max, Bool, false, if◌then◌else◌, not, ◌&&◌, ◌||◌, nat_eq, nat_lt, nat_le, List, [], ◌∷◌, ◌++◌, map, length, filter, find, Option, None, Some, ◌^◌}
use Rattle.grid_types.specs.declared.entry.Entry.{Entry}
use Rattle.grid_types.specs.declared.entry.Change.{Change}
use Rattle.grid_types.specs.declared.entry.Change.TheVariants as change
use Rattle.grid_types.specs.declared.entry.FailWhy.{FailWhy}
use Rattle.grid_types.specs.declared.entry.FailWhy.TheVariants as why
use Rattle.grid_types.specs.declared.entry.EndCause.TheVariants as cause
use Rattle.grid_types.specs.declared.entry.Outcome.{Outcome}
use Rattle.grid_types.specs.declared.entry.Outcome.TheVariants as outcome
use Rattle.grid_types.specs.declared.limits.TheConstants.{MOST_NODES}
use Rattle.grid_types.specs.declared.names.Moment.{Moment}
use Rattle.grid_types.specs.declared.names.SlotId.{SlotId}
use Rattle.grid_types.specs.declared.capabilities.Cap.{Cap}
use Rattle.grid_types.specs.declared.capabilities.Registration.{Registration}
use Rattle.grid_types.specs.declared.config.HubConfig.{HubConfig}
use Rattle.grid_types.specs.Lists.{least}
use Rattle.grid_types.specs.Capabilities.{request_bytes}
use Rattle.grid_types.specs.Matching.{meets}
use Rattle.grid_types.specs.History.{after, clock, nodes, next_node, next_request}
use Rattle.grid_types.specs.Nodes.{is_base_up, is_draining, is_registered, is_suspect, is_spent, beat_of}
use Rattle.grid_types.specs.Slots.{has_slot_in_use, listed}
use Rattle.grid_types.specs.Requests.{place, is_waiting, is_settled, outcome_of, deadline_of, unsettled, unsettled_bytes, waiting_requests}
use Rattle.grid_types.specs.Bindings.{Running, bound_of}
use Rattle.grid_types.specs.Sessions.{is_live_session, live, found_of, active, live_bindings}
use Rattle.grid_types.specs.Choice.{Assignment, chosen}
use Rattle.grid_types.specs.Permitted.{most_bytes, is_named, is_supported, deadline_at, is_last, wanted_of}
use Rattle.grid_types.specs.Tokens.{Reservation, Closing, ticket_of, reservation_of, closing_of}
use Rattle.grid_types.specs.Calls.{Call, Reply}
use Rattle.grid_types.specs.Overview.{view_of}

-- the changes that a call makes, in order, and its reply
pub record Answer : Type 0 where
  pub changes : List Change
  pub reply : Reply

-- a call that changes nothing
abbrev pub says : Reply → Answer
says reply = record { changes = []; reply = reply }

-- a call that makes one change
abbrev pub makes : Change → Reply → Answer
makes made reply = record { changes = made ∷ []; reply = reply }

-- a number of milliseconds as a moment
abbrev pub moment : ℕ → Moment
moment milliseconds = record { 0 = milliseconds }

-- register, where a node of that name may be registered already: the name, then the room, then the
-- numbers
abbrev pub register_by : HubConfig → List Entry → Registration → ℕ → Option ℕ → Answer
register_by config history registration now (Some node) = says (Reply.name_taken node)
register_by config history registration now None =
    if nat_le MOST_NODES (length (listed history)) then says (Reply.nodes_full MOST_NODES)
    else if nat_le (2 ^ 32 - 1) (next_node config history) then says Reply.numbers_spent
    else
    makes (change.Registered (next_node config history) registration (moment now))
    (Reply.registered (next_node config history))

-- the node is registered, and where the beat tells a name it is the node's
abbrev pub is_beat_of : List Entry → ℕ → Option (List ℕ) → Bool
is_beat_of history node None = is_registered history node
is_beat_of history node (Some name) = is_named history name node

-- beat: a node of this number under another name is not the one that beats
abbrev pub beaten : List Entry → ℕ → Option (List ℕ) → ℕ → Answer
beaten history node name now =
    if is_beat_of history node name
    then makes (change.Beaten node (moment now)) Reply.beaten
    else says Reply.no_node

-- the change and the reply, where the node is registered
abbrev pub at_registered : List Entry → ℕ → Change → Reply → Answer
at_registered history node made reply =
    if is_registered history node then makes made reply else says Reply.no_node

-- drain: a node that was drained makes no entry
abbrev pub drained : List Entry → ℕ → ℕ → Answer
drained history node now =
    if is_base_up history node then makes (change.Draining node (moment now)) Reply.draining
    else if is_draining history node then says Reply.draining
    else says Reply.no_node

-- enqueue: the numbers, then the support, then the room
abbrev pub enqueued : HubConfig → List Entry → List (List Cap) → ℕ → Answer
enqueued config history choices now =
    if nat_le (2 ^ 64 - 1) (next_request config history) then says Reply.numbers_spent
    else if config.reject_unsupported && not (is_supported history choices) then
    says Reply.unsupported
    else if
    nat_le config.queue_requests (length (unsettled history))
    || nat_lt most_bytes (unsettled_bytes history + request_bytes choices)
    then says (Reply.queue_full (length (unsettled history)) (unsettled_bytes history))
    else
    makes
    (change.Queued (next_request config history) choices (moment (deadline_at config choices now))
    (moment now))
    (Reply.queued (record {
      request = next_request config history;
      deadline = deadline_at config choices now;
    }))

-- the reservation of an assignment
abbrev pub reserves : ℕ → Assignment → Change
reserves now assignment =
    change.Reserved assignment.request assignment.slot assignment.choice (moment now)

-- what the token of a reservation tells, once it is made
abbrev pub reserved : List Entry → ℕ → ℕ → Assignment → Reservation
reserved history caller now assignment =
    reservation_of (after history caller (reserves now assignment ∷ [])) assignment.request
    assignment.slot

-- poll of a request that is not settled and not overdue, by the assignment that is chosen
abbrev pub polled_open : List Entry → ℕ → ℕ → ℕ → Option Assignment → Answer
polled_open history caller request now None = says (Reply.not_yet (ticket_of history request))
polled_open history caller request now (Some assignment) =
    if nat_eq assignment.request request then
    makes (reserves now assignment)
    (Reply.yours (ticket_of history request) (reserved history caller now assignment))
    else says (Reply.not_yet (ticket_of history request))

-- poll, by the request's outcome: that, then the deadline, then the chosen assignment
abbrev pub polled : List Entry → ℕ → ℕ → ℕ → Option Outcome → Answer
polled history caller request now (Some result) =
    makes (change.Taken request (moment now)) (Reply.settled result)
polled history caller request now None =
    if nat_le (deadline_of history request) now then
    record {
      changes = change.TimedOut request (moment now) ∷ change.Taken request (moment now) ∷ [];
      reply = Reply.settled (outcome.TimedOut (moment (deadline_of history request)));
    }
    else polled_open history caller request now (chosen history now)

-- withdraw, by the request's outcome: that, else a waiting request is cleared and its ticket is taken;
-- of one that is held a start is under way, and it is to be asked again
abbrev pub withdrawn : List Entry → ℕ → ℕ → Option Outcome → Answer
withdrawn history request now (Some result) =
    makes (change.Taken request (moment now)) (Reply.settled result)
withdrawn history request now None =
    if is_waiting (place history request) then
    record {
      changes = change.Cleared request (moment now) ∷ change.Taken request (moment now) ∷ [];
      reply = Reply.withdrawn;
    }
    else says (Reply.not_yet (ticket_of history request))

-- dispatch, by the assignment that is chosen
abbrev pub dispatched : List Entry → ℕ → ℕ → Option Assignment → Answer
dispatched history caller now None = says Reply.nothing
dispatched history caller now (Some assignment) =
    makes (reserves now assignment) (Reply.assigned (reserved history caller now assignment))

-- bind that does not keep the session: the failed start, and the closing of its slot
abbrev pub not_kept :
    List Entry → ℕ → ℕ → SlotId → List ℕ → ℕ → FailWhy → (Closing → Reply) → Answer
not_kept history caller request slot session now reason answer =
    makes
    (change.Failed request slot reason (Some session) (is_last history request slot) (moment now))
    (answer (closing_of (after history caller
    (change.Failed request slot reason (Some session) (is_last history request slot) (moment now)
    ∷ [])) slot session))

-- the drain of a node of base Up on which as many sessions were bound as it drains after
abbrev pub drain_after_bind : List Entry → ℕ → ℕ → List Change
drain_after_bind history node now =
    if is_spent history node && is_base_up history node
    then change.Draining node (moment now) ∷ []
    else []

-- bind that keeps the session: its Bound, and the drain of the slot's node where it was the last
-- one there
abbrev pub bind_kept : List Entry → ℕ → ℕ → SlotId → List ℕ → List Cap → ℕ → Answer
bind_kept history caller request slot session capabilities now = record {
  changes =
      change.Bound request slot session capabilities (moment now)
      ∷ drain_after_bind
      (after history caller (change.Bound request slot session capabilities (moment now) ∷ []))
      slot.node now;
  reply = Reply.bound request;
}

-- the first of the four causes for which bind does not keep the session
abbrev pub refusal_of : List Entry → ℕ → SlotId → List ℕ → List Cap → Option FailWhy
refusal_of history request slot session capabilities =
    if is_settled history request then Some why.Late
    else if not (is_registered history slot.node) then Some why.NodeGone
    else if is_live_session history session then Some why.Duplicate
    else if not (meets (wanted_of history request slot) capabilities) then Some why.Mismatch
    else None

-- the reply for a cause
abbrev pub refused_reply : FailWhy → Closing → Reply
refused_reply why.Late closing = Reply.late closing
refused_reply why.NodeGone closing = Reply.node_gone closing
refused_reply why.Duplicate closing = Reply.duplicate closing
refused_reply other closing = Reply.mismatch closing

-- bind, by the cause not to keep the session
abbrev pub bound_by :
    List Entry → ℕ → ℕ → SlotId → List ℕ → List Cap → ℕ → Option FailWhy → Answer
bound_by history caller request slot session capabilities now None =
    bind_kept history caller request slot session capabilities now
bound_by history caller request slot session capabilities now (Some reason) =
    not_kept history caller request slot session now reason (refused_reply reason)

abbrev pub bound : List Entry → ℕ → ℕ → SlotId → List ℕ → List Cap → ℕ → Answer
bound history caller request slot session capabilities now =
    bound_by history caller request slot session capabilities now
    (refusal_of history request slot session capabilities)

-- fail: the failed start without a session; the reply is by what held before it
abbrev pub failed : List Entry → ℕ → SlotId → FailWhy → ℕ → Answer
failed history request slot reason now =
    makes (change.Failed request slot reason None (is_last history request slot) (moment now))
    (if is_settled history request then Reply.failed_late
    else if is_last history request slot then Reply.failed_refused
    else Reply.failed_again)

-- there is a running session, and this is its binding
abbrev pub is_binding : ℕ → Option Running → Bool
is_binding binding None = false
is_binding binding (Some running) = nat_eq running.binding binding

-- the answer where the session is live under this binding
abbrev pub at_binding : List Entry → List ℕ → ℕ → Answer → Answer
at_binding history session binding answer =
    if is_binding binding (live history session) then answer else says Reply.no_session

-- the change that ends a running session, where there is one, and the closing of its slot
abbrev pub closes : List Entry → ℕ → Change → Option Running → (Closing → Reply) → Answer
closes history caller made None answer = says Reply.no_session
closes history caller made (Some running) answer =
    makes made (answer (closing_of (after history caller (made ∷ [])) running.slot running.session))

-- the registered nodes that were silent for so long that they are down
abbrev pub lapsed_nodes : HubConfig → List Entry → ℕ → List ℕ
lapsed_nodes config history now =
    filter
    (λ node. is_registered history node && nat_le config.down_ms (now - beat_of history node))
    (nodes history)

-- the registered nodes that are silent and not suspect yet
abbrev pub silent_nodes : HubConfig → List Entry → ℕ → List ℕ
silent_nodes config history now =
    filter
    (λ node. is_registered history node
    && not (is_suspect history node)
    && nat_le config.lapse_ms (now - beat_of history node))
    (nodes history)

-- the requests that are not settled and whose deadline has come
abbrev pub overdue_requests : List Entry → ℕ → List ℕ
overdue_requests history now =
    filter (λ request. nat_le (deadline_of history request) now) (unsettled history)

-- the draining nodes whose slots are all free
abbrev pub drained_nodes : List Entry → List ℕ
drained_nodes history =
    filter (λ node. is_draining history node && not (has_slot_in_use history node)) (nodes history)

-- the lapses of a sweep
abbrev pub lapses : HubConfig → List Entry → ℕ → List Change
lapses config history now =
    map (λ node. change.Lapsed node (moment now)) (lapsed_nodes config history now)

-- the suspicions of a sweep
abbrev pub suspicions : HubConfig → List Entry → ℕ → List Change
suspicions config history now =
    map (λ node. change.Suspected node (moment now)) (silent_nodes config history now)

-- the time-outs of a sweep
abbrev pub time_outs : List Entry → ℕ → List Change
time_outs history now =
    map (λ request. change.TimedOut request (moment now)) (overdue_requests history now)

-- the removals of a sweep
abbrev pub removals : List Entry → ℕ → List Change
removals history now = map (λ node. change.Removed node (moment now)) (drained_nodes history)

-- the changes in order, and how many of each
abbrev pub swept_by : List Change → List Change → List Change → List Change → Answer
swept_by lapsed suspected overdue removed = record {
  changes = lapsed ++ suspected ++ overdue ++ removed;
  reply = Reply.swept (length lapsed) (length suspected) (length overdue) (length removed);
}

-- sweep: each lapsed node, then each silent one, each overdue request, and each drained node. The
-- silent and the drained ones are read after the lapses: a node that lapses is not suspected then,
-- and not removed
abbrev pub swept : HubConfig → List Entry → ℕ → ℕ → Answer
swept config history caller now =
    swept_by (lapses config history now)
    (suspicions config (after history caller (lapses config history now)) now)
    (time_outs history now)
    (removals (after history caller (lapses config history now)) now)

-- the live bindings that were idle for too long
abbrev pub idle_bindings : HubConfig → List Entry → ℕ → List ℕ
idle_bindings config history now =
    filter (λ binding. nat_le config.idle_ms (now - active history binding)) (live_bindings history)

-- expire: the end of the binding that is chosen, where there is one
abbrev pub expired_by : List Entry → ℕ → ℕ → Option ℕ → Answer
expired_by history caller now None = says Reply.nothing
expired_by history caller now (Some binding) =
    closes history caller (change.Ended binding cause.Idle (moment now))
    (bound_of history binding) Reply.expired

-- clear: each waiting request
abbrev pub cleared : List Entry → ℕ → Answer
cleared history now = record {
  changes = map (λ request. change.Cleared request (moment now)) (waiting_requests history);
  reply = Reply.cleared (length (waiting_requests history));
}

-- what the hub answers at a moment that is not before the clock
abbrev pub answer : HubConfig → List Entry → ℕ → Call → ℕ → Answer
answer config history caller (Call.register registration) now =
    register_by config history registration now
    (find (is_named history registration.name) (nodes history))
answer config history caller (Call.beat node name) now = beaten history node name now
answer config history caller (Call.drain node) now = drained history node now
answer config history caller (Call.remove node) now =
    at_registered history node (change.Removed node (moment now)) Reply.removed
answer config history caller (Call.enqueue choices) now = enqueued config history choices now
answer config history caller (Call.poll ticket) now =
    polled history caller ticket.request now (outcome_of history ticket.request)
answer config history caller (Call.withdraw ticket) now =
    withdrawn history ticket.request now (outcome_of history ticket.request)
answer config history caller Call.dispatch now = dispatched history caller now (chosen history now)
answer config history caller (Call.bind reservation session capabilities) now =
    bound history caller reservation.request reservation.slot session capabilities now
answer config history caller (Call.fail reservation reason) now =
    failed history reservation.request reservation.slot reason now
answer config history caller (Call.lookup session) now =
    says (Reply.found (found_of (live history session)))
answer config history caller (Call.touch session binding) now =
    at_binding history session binding (makes (change.Touched binding (moment now)) Reply.touched)
answer config history caller (Call.end session binding) now =
    at_binding history session binding
    (closes history caller (change.Ended binding cause.Quit (moment now))
    (live history session) Reply.ended)
answer config history caller (Call.freed closing) now =
    makes (change.Freed closing.slot) Reply.is_freed
answer config history caller Call.sweep now = swept config history caller now
answer config history caller Call.expire now =
    expired_by history caller now (least nat_lt (idle_bindings config history now))
answer config history caller Call.clear now = cleared history now
answer config history caller Call.view now = says (Reply.viewed (view_of history))

-- what the hub answers: a moment before the clock is raised to it
unfoldable pub hub : HubConfig → List Entry → ℕ → Call → ℕ → Answer
hub config history caller call at = answer config history caller call (max at (clock history))

-- the history after the call
abbrev pub after_call : HubConfig → List Entry → ℕ → Call → ℕ → List Entry
after_call config history caller call at =
    after history caller (hub config history caller call at).changes

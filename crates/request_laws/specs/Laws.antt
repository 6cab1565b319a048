-- The laws of starts and polls.
use Rattle.std.specs.Prelude.{◌≡◌, ℕ, ◌+◌, ◌<◌, ◌≤◌, ◌^◌, max, Bool, true, false, List, Some}
use Rattle.grid_types.specs.declared.config.HubConfig.{HubConfig}
use Rattle.grid_types.specs.declared.entry.Entry.{Entry}
use Rattle.grid_types.specs.declared.capabilities.Cap.{Cap}
use Rattle.grid_types.specs.declared.entry.FailWhy.{FailWhy}
use Rattle.grid_types.specs.History.{clock}
use Rattle.grid_types.specs.QueueTime.{queue_time}
use Rattle.grid_types.specs.Requests.{deadline_of}
use Rattle.grid_types.specs.Choice.{Assignment, chosen}
use Rattle.grid_types.specs.Permitted.{last_moment}
use Rattle.grid_types.specs.Legal.{legal}
use Rattle.grid_types.specs.Tokens.{Ticket, Reservation, Closing}
use Rattle.grid_types.specs.Calls.{Call, Reply}
use Rattle.grid_types.specs.HubAnswers.{hub, after_call}
use Rattle.request_laws.specs.Starts.{is_untried, newest_request, registered_count, starts_left}

-- what a poll that gave a slot did
pub record GaveSlot (c : HubConfig) (H : List Entry) (caller : ℕ) (t : Ticket) (at : ℕ) (u : Ticket) : Type 0 where
  pub same_request : u.request ≡ t.request
  pub fewer : starts_left (after_call c H caller (Call.poll t) at) t.request < starts_left H t.request

pub record StartsRunOut : Type 0 where
  -- what is chosen for a request is a slot of a registered node on which it had none
  pub untried : (c : HubConfig) (H : List Entry) (m : ℕ) (a : Assignment) → legal c H ≡ true → chosen H m ≡ Some a →
      is_untried H a.request a.slot.node ≡ true
  -- so each slot that a request gets leaves it fewer nodes
  pub yours : (c : HubConfig) (H : List Entry) (caller : ℕ) (t u : Ticket) (r : Reservation) (at : ℕ) → legal c H ≡ true →
      (hub c H caller (Call.poll t) at).reply ≡ Reply.yours u r → GaveSlot c H caller t at u
  -- and what comes between its polls gives it none
  pub bind : (c : HubConfig) (H : List Entry) (caller : ℕ) (r : Reservation) (session : List ℕ) (caps : List Cap) (at q : ℕ) →
      starts_left (after_call c H caller (Call.bind r session caps) at) q ≤ starts_left H q
  pub fail : (c : HubConfig) (H : List Entry) (caller : ℕ) (r : Reservation) (w : FailWhy) (at q : ℕ) →
      starts_left (after_call c H caller (Call.fail r w) at) q ≤ starts_left H q
  pub freed : (c : HubConfig) (H : List Entry) (caller : ℕ) (k : Closing) (at q : ℕ) →
      starts_left (after_call c H caller (Call.freed k) at) q ≤ starts_left H q
  -- a request that is queued registers no node
  pub queues : (c : HubConfig) (H : List Entry) (caller : ℕ) (choices : List (List Cap)) (at : ℕ) →
      registered_count (after_call c H caller (Call.enqueue choices) at) ≤ registered_count H
  -- there are never more than the registered nodes, and these are few
  pub registered : (H : List Entry) (q : ℕ) → starts_left H q ≤ registered_count H
  pub few : (c : HubConfig) (H : List Entry) → legal c H ≡ true → registered_count H ≤ 2 ^ 32

-- a poll at the moment comes before the deadline of its request
abbrev pub IsEarly : List Entry → Ticket → ℕ → Type 0
IsEarly H t at = max at (clock H) < deadline_of H t.request

-- where it is not settled, and where it gets a slot
pub record PollsAreEarly : Type 0 where
  pub not_yet : (c : HubConfig) (H : List Entry) (caller : ℕ) (t u : Ticket) (at : ℕ) →
      (hub c H caller (Call.poll t) at).reply ≡ Reply.not_yet u →
      IsEarly H t at × (u.request ≡ t.request) × (after_call c H caller (Call.poll t) at ≡ H)
  pub yours : (c : HubConfig) (H : List Entry) (caller : ℕ) (t u : Ticket) (r : Reservation) (at : ℕ) →
      (hub c H caller (Call.poll t) at).reply ≡ Reply.yours u r → IsEarly H t at

-- the deadline of a request is no later than the last moment that there is
abbrev pub DeadlinesAreMoments : Type 0
DeadlinesAreMoments = (c : HubConfig) (H : List Entry) (r : ℕ) → legal c H ≡ true → deadline_of H r ≤ last_moment

-- a call that queues a request
abbrev pub is_enqueue : Call → Bool
is_enqueue (Call.enqueue choices) = true
is_enqueue call = false

pub record CallsKeepNewest : Type 0 where
  pub others : (c : HubConfig) (H : List Entry) (caller : ℕ) (call : Call) (at : ℕ) → is_enqueue call ≡ false →
      newest_request (after_call c H caller call at) ≡ newest_request H
  pub queued : (c : HubConfig) (H : List Entry) (caller : ℕ) (choices : List (List Cap)) (at : ℕ) (t : Ticket) →
      (hub c H caller (Call.enqueue choices) at).reply ≡ Reply.queued t →
      newest_request (after_call c H caller (Call.enqueue choices) at) ≡ t.request
  -- nor any deadline
  pub deadlines : (c : HubConfig) (H : List Entry) (caller : ℕ) (call : Call) (at q : ℕ) → is_enqueue call ≡ false →
      deadline_of (after_call c H caller call at) q ≡ deadline_of H q

-- no call leaves the clock later than its moment, or than it was
abbrev pub CallsKeepTheClock : Type 0
CallsKeepTheClock = (c : HubConfig) (H : List Entry) (caller : ℕ) (call : Call) (at : ℕ) →
    clock (after_call c H caller call at) ≤ max at (clock H)

-- a request that is queued has its deadline as many milliseconds after the moment as it may wait, at most
abbrev pub QueuedDeadlines : Type 0
QueuedDeadlines = (c : HubConfig) (H : List Entry) (caller : ℕ) (choices : List (List Cap)) (at : ℕ) (t : Ticket) →
    (hub c H caller (Call.enqueue choices) at).reply ≡ Reply.queued t →
    deadline_of (after_call c H caller (Call.enqueue choices) at) t.request ≤ max at (clock H) + queue_time c choices

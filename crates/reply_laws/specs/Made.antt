-- The changes that a call made, in order, by its reply. Where the reply alone doesn't tell them, what else is known stands
-- before it.
use Rattle.std.specs.Prelude.{◌≡◌, ℕ, max, Bool, true, false, cond, not, ◌&&◌, nat_lt, List, [], ◌∷◌, Option, None, Some}
use Rattle.grid_types.specs.declared.config.HubConfig.{HubConfig}
use Rattle.grid_types.specs.declared.entry.Entry.{Entry}
use Rattle.grid_types.specs.declared.entry.Change.{Change}
use Rattle.grid_types.specs.declared.entry.Change.TheVariants as change
use Rattle.grid_types.specs.declared.entry.EndCause.TheVariants as cause
use Rattle.grid_types.specs.declared.entry.FailWhy.{FailWhy}
use Rattle.grid_types.specs.declared.entry.FailWhy.TheVariants as why
use Rattle.grid_types.specs.declared.names.Moment.{Moment}
use Rattle.grid_types.specs.declared.capabilities.Cap.{Cap}
use Rattle.grid_types.specs.declared.capabilities.Registration.{Registration}
use Rattle.grid_types.specs.Lists.{least}
use Rattle.grid_types.specs.History.{clock}
use Rattle.grid_types.specs.Nodes.{is_base_up}
use Rattle.grid_types.specs.Requests.{is_settled}
use Rattle.grid_types.specs.Tokens.{Ticket, Reservation, Closing}
use Rattle.grid_types.specs.Calls.{Call, Reply}
use Rattle.grid_types.specs.HubAnswers.{after_call, hub, idle_bindings, moment}

abbrev pub register_made : Registration → Moment → Reply → List Change
register_made registration now (Reply.registered node) = change.Registered node registration now ∷ []
register_made registration now reply = []

abbrev pub beat_made : ℕ → Moment → Reply → List Change
beat_made node now Reply.beaten = change.Beaten node now ∷ []
beat_made node now reply = []

-- by whether the node took new sessions before
abbrev pub drain_made : ℕ → Bool → Moment → List Change
drain_made node was_up now = cond was_up (change.Draining node now ∷ []) []

abbrev pub remove_made : ℕ → Moment → Reply → List Change
remove_made node now Reply.removed = change.Removed node now ∷ []
remove_made node now reply = []

abbrev pub enqueue_made : List (List Cap) → Moment → Reply → List Change
enqueue_made choices now (Reply.queued ticket) =
    change.Queued ticket.request choices (moment ticket.deadline) now ∷ []
enqueue_made choices now reply = []

abbrev pub reserved_by : Moment → Reservation → List Change
reserved_by now reservation =
    change.Reserved reservation.request reservation.slot reservation.choice now ∷ []

-- by whether the request was settled before
abbrev pub poll_made : ℕ → Bool → Moment → Reply → List Change
poll_made request was_settled now (Reply.settled outcome) =
    cond was_settled (change.Taken request now ∷ [])
    (change.TimedOut request now ∷ change.Taken request now ∷ [])
poll_made request was_settled now (Reply.yours ticket reservation) = reserved_by now reservation
poll_made request was_settled now reply = []

abbrev pub withdraw_made : ℕ → Moment → Reply → List Change
withdraw_made request now (Reply.settled outcome) = change.Taken request now ∷ []
withdraw_made request now Reply.withdrawn =
    change.Cleared request now ∷ change.Taken request now ∷ []
withdraw_made request now reply = []

abbrev pub dispatch_made : Moment → Reply → List Change
dispatch_made now (Reply.assigned reservation) = reserved_by now reservation
dispatch_made now reply = []

-- a session that is not kept, by whether its request is settled since
abbrev pub not_kept_made :
    Reservation → List ℕ → FailWhy → Bool → Moment → List Change
not_kept_made reservation session reason last now =
    change.Failed reservation.request reservation.slot reason (Some session) last now ∷ []

-- By whether the slot's node took new sessions before the call and after it, and whether the request is settled after it.
abbrev pub bind_made :
    Reservation → List ℕ → List Cap → Bool → Bool → Bool → Moment → Reply → List Change
bind_made reservation session capabilities was_up is_up settles now (Reply.bound binding) =
    change.Bound reservation.request reservation.slot session capabilities now
    ∷ cond (was_up && not is_up) (change.Draining reservation.slot.node now ∷ []) []
bind_made reservation session capabilities was_up is_up settles now (Reply.late closing) =
    not_kept_made reservation session why.Late false now
bind_made reservation session capabilities was_up is_up settles now (Reply.node_gone closing) =
    not_kept_made reservation session why.NodeGone settles now
bind_made reservation session capabilities was_up is_up settles now (Reply.duplicate closing) =
    not_kept_made reservation session why.Duplicate settles now
bind_made reservation session capabilities was_up is_up settles now (Reply.mismatch closing) =
    not_kept_made reservation session why.Mismatch settles now
bind_made reservation session capabilities was_up is_up settles now reply = []

-- the failure settled the request
abbrev pub is_refusal : Reply → Bool
is_refusal Reply.failed_refused = true
is_refusal reply = false

abbrev pub fail_made : Reservation → FailWhy → Moment → Reply → List Change
fail_made reservation reason now reply =
    change.Failed reservation.request reservation.slot reason None (is_refusal reply) now ∷ []

abbrev pub touch_made : ℕ → Moment → Reply → List Change
touch_made binding now Reply.touched = change.Touched binding now ∷ []
touch_made binding now reply = []

abbrev pub end_made : ℕ → Moment → Reply → List Change
end_made binding now (Reply.ended closing) = change.Ended binding cause.Quit now ∷ []
end_made binding now reply = []

-- by the idle binding that is least, if there is one
abbrev pub expire_made : Option ℕ → Moment → Reply → List Change
expire_made (Some binding) now (Reply.expired closing) = change.Ended binding cause.Idle now ∷ []
expire_made idle now reply = []

-- the changes of a call at a moment that is not before the clock, by its reply
abbrev pub Makes : HubConfig → List Entry → ℕ → Call → ℕ → (Moment → Reply → List Change) → Type 0
Makes config history caller call at made =
    (hub config history caller call at).changes
    ≡ made (moment (max at (clock history))) (hub config history caller call at).reply

-- what each call made
pub record CallsMake : Type 0 where
  pub register : (config : HubConfig) (history : List Entry) (caller at : ℕ)
      (registration : Registration) →
      Makes config history caller (Call.register registration) at (register_made registration)
  pub beat : (config : HubConfig) (history : List Entry) (caller at node : ℕ)
      (name : Option (List ℕ)) →
      Makes config history caller (Call.beat node name) at (beat_made node)
  pub drain : (config : HubConfig) (history : List Entry) (caller at node : ℕ) →
      Makes config history caller (Call.drain node) at
      (λ now reply. drain_made node (is_base_up history node) now)
  pub remove : (config : HubConfig) (history : List Entry) (caller at node : ℕ) →
      Makes config history caller (Call.remove node) at (remove_made node)
  pub enqueue : (config : HubConfig) (history : List Entry) (caller at : ℕ)
      (choices : List (List Cap)) →
      Makes config history caller (Call.enqueue choices) at (enqueue_made choices)
  pub poll : (config : HubConfig) (history : List Entry) (caller at : ℕ) (ticket : Ticket) →
      Makes config history caller (Call.poll ticket) at
      (poll_made ticket.request (is_settled history ticket.request))
  pub withdraw : (config : HubConfig) (history : List Entry) (caller at : ℕ) (ticket : Ticket) →
      Makes config history caller (Call.withdraw ticket) at (withdraw_made ticket.request)
  pub dispatch : (config : HubConfig) (history : List Entry) (caller at : ℕ) →
      Makes config history caller Call.dispatch at dispatch_made
  pub bind : (config : HubConfig) (history : List Entry) (caller at : ℕ)
      (reservation : Reservation) (session : List ℕ) (capabilities : List Cap) →
      Makes config history caller (Call.bind reservation session capabilities) at
      (bind_made reservation session capabilities (is_base_up history reservation.slot.node)
      (is_base_up
      (after_call config history caller (Call.bind reservation session capabilities) at)
      reservation.slot.node)
      (is_settled
      (after_call config history caller (Call.bind reservation session capabilities) at)
      reservation.request))
  pub fail : (config : HubConfig) (history : List Entry) (caller at : ℕ)
      (reservation : Reservation) (reason : FailWhy) →
      Makes config history caller (Call.fail reservation reason) at
      (fail_made reservation reason)
  pub touch : (config : HubConfig) (history : List Entry) (caller at : ℕ) (session : List ℕ)
      (binding : ℕ) →
      Makes config history caller (Call.touch session binding) at (touch_made binding)
  pub end_of : (config : HubConfig) (history : List Entry) (caller at : ℕ) (session : List ℕ)
      (binding : ℕ) →
      Makes config history caller (Call.end session binding) at (end_made binding)
  pub freed : (config : HubConfig) (history : List Entry) (caller at : ℕ) (closing : Closing) →
      (hub config history caller (Call.freed closing) at).changes ≡ change.Freed closing.slot ∷ []
  pub expire : (config : HubConfig) (history : List Entry) (caller at : ℕ) →
      Makes config history caller Call.expire at
      (expire_made (least nat_lt (idle_bindings config history (max at (clock history)))))

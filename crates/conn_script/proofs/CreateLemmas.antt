-- The answers of a New Session.
use Rattle.std.proofs.Common.{◌≡◌, ◌≢◌, ℕ, Bool, true, false, List, [], ◌∷◌, refl, sym, subst, inl}
use Rattle.std.specs.Prelude.{Result, Ok, Err, None, Some, IfOk}
use Rattle.grid_types.specs.declared.text.NoMemory.{NoMemory}
use Rattle.grid_types.specs.declared.capabilities.Cap.{Cap}
use Rattle.grid_types.specs.declared.entry.Outcome.{Outcome}
use Rattle.grid_types.specs.declared.entry.Outcome.TheVariants as outcome
use Rattle.grid_types.specs.declared.entry.FailWhy.TheVariants as why
use Rattle.grid_types.specs.declared.names.SlotId.{SlotId}
use Rattle.node_client.specs.declared.carry.Carry.{Carry}
use Rattle.node_client.specs.Asks.{start_ask}
use Rattle.node_client.specs.Places.{Place, at_start, at_bind, at_return, at_fail, at_quit, at_free, at_end, wanted_at}
use Rattle.node_client.specs.Carrying.{IsNew, IsFirst}
use Rattle.grid_types.specs.Tokens.{Ticket, Reservation}
use Rattle.grid_types.specs.Calls.{Call, Reply}
use Rattle.hub_core.specs.declared.answers.Enqueued.{Enqueued}
use Rattle.hub_core.specs.declared.answers.Enqueued.TheVariants as enqueued
use Rattle.hub_core.specs.declared.answers.Polled.{Polled}
use Rattle.hub_core.specs.declared.answers.Polled.TheVariants as polled
use Rattle.hub_core.specs.Replies.{enqueued_reply}
use Rattle.node_client.specs.Steps.{Step, Called}
use Rattle.conn_script.specs.declared.creating.Creating.TheVariants as creating
use Rattle.conn_script.specs.declared.turn.Turn.{Turn}
use Rattle.conn_script.specs.declared.turn.Turn.TheVariants as turn
use Rattle.conn_script.specs.declared.turn.Run.TheVariants as run
use Rattle.conn_script.specs.declared.wants.HubAnswer.{HubAnswer}
use Rattle.conn_script.specs.declared.wants.HubAnswer.TheVariants as answers
use Rattle.conn_script.specs.Responses.{Response, own, bytes_of}
use Rattle.conn_script.specs.Messages.{enqueue_refusal, outcome_response}
use Rattle.conn_script.specs.Build.{Responds}
use Rattle.conn_script.specs.NewSession as rules
use Rattle.conn_script.specs.NewSession.{Rounds, Withdraws, Asks, AskLacks, poll_pause}
use Rattle.conn_script.specs.Wanted.{Wanted, to_call, to_ask, to_pause, FitsKind, Kind}
use Rattle.conn_script.specs.Turns.{Turns, responded, IsUnanswered}
use Rattle.conn_script.specs.Creating.{no_start, starts, want_of, GoesOnStarting, start_ends, start_finds_spent, CreatesOn, NeverStops, AfterPause, PauseTurns, EnqueueTurns, PollTurns, paused, gone}
use Rattle.conn_script.proofs.TurnLemmas.{own_turns}
use Rattle.conn_script.proofs.ElseLemmas.{else_turns, else_enqueue, else_poll}
use Rattle.conn_script.proofs.AnswerLemmas.{from_responds}

pub pause_turns : (t : Ticket) → PauseTurns t (turn.Go (run.Creating (creating.Poll t)) false)
pause_turns t close = ((no_start, to_call (Call.poll t), (refl, refl), refl, (λ more response p. paused more response p), (λ more p. absurd p)), refl)

-- ---- the new request

pub enqueue_else : (answer : HubAnswer) (t : Turn) (close : Bool) → FitsKind answer Kind.enqueue → ((x : Enqueued) → answer ≢ answers.Enqueue x) → IsUnanswered answer t →
    EnqueueTurns answer t close
enqueue_else answer t close f n h choices at =
    else_turns CreatesOn (Asks choices) (AskLacks choices) Kind.enqueue (Call.enqueue choices) at close answer t (else_enqueue answer f n) h (rules.enqueue_spent at) refl (λ r. absurd r)

pub enqueue_queued : (t : Ticket) (close : Bool) → EnqueueTurns (answers.Enqueue (enqueued.Queued t)) (turn.Go (run.Creating (creating.Poll t)) false) close
enqueue_queued t close choices at = ((no_start, to_call (Call.poll t), (refl, refl), refl, (λ more response p. rules.queued at t p), (λ more p. absurd p)), refl)

own_bytes : (reply : Reply) (status : ℕ) (body : List ℕ) (close : Bool) (r : Result (List ℕ) NoMemory) → enqueue_refusal reply ≡ Some (own status body) →
    IfOk r (λ bytes. Responds (Some reply) enqueue_refusal bytes close) → IfOk r (λ bytes. bytes ≡ bytes_of (own status body) close)
own_bytes reply status body close (Ok bytes) f h = from_responds (Some reply) enqueue_refusal reply status body bytes close refl f h
own_bytes reply status body close (Err w) f h = tt

told_refusal : (choices : List (List Cap)) (at : ℕ) (reply : Reply) (status : ℕ) (body : List ℕ) (close : Bool) (r : Result (List ℕ) NoMemory) → enqueue_refusal reply ≡ Some (own status body) →
    IfOk r (λ bytes. Responds (Some reply) enqueue_refusal bytes close) →
    Turns CreatesOn (Asks choices) (AskLacks choices) (Called (Call.enqueue choices) at (Some reply) ∷ []) close (responded r)
told_refusal choices at reply status body close r f h =
    own_turns CreatesOn (Asks choices) (AskLacks choices) (Called (Call.enqueue choices) at (Some reply) ∷ []) close r status body
    (rules.not_queued at reply (own status body) f) refl (own_bytes reply status body close r f h)

pub enqueue_refused : (x : Enqueued) (close : Bool) (r : Result (List ℕ) NoMemory) → ((t : Ticket) → x ≢ enqueued.Queued t) →
    IfOk r (λ bytes. Responds (enqueued_reply x) enqueue_refusal bytes close) → EnqueueTurns (answers.Enqueue x) (responded r) close
enqueue_refused (enqueued.Queued t) close r n h choices at = absurd (n t refl)
enqueue_refused enqueued.Unsupported close r n h choices at = told_refusal choices at Reply.unsupported _ _ close r refl h
enqueue_refused (enqueued.QueueFull count bytes) close r n h choices at = told_refusal choices at (Reply.queue_full count bytes) _ _ close r refl h
enqueue_refused enqueued.NumbersSpent close r n h choices at = told_refusal choices at Reply.numbers_spent _ _ close r refl h
enqueue_refused enqueued.Memory close (Ok bytes) n h choices at = let never : None ≡ Some h.said = h.reply_is in absurd (cc)
enqueue_refused enqueued.Memory close (Err w) n h choices at = inl (rules.ask_lacks at)

-- ---- polls

pub poll_else : (k : ℕ) (answer : HubAnswer) (t : Turn) (close : Bool) → FitsKind answer Kind.poll → ((x : Polled) → answer ≢ answers.Poll x) → IsUnanswered answer t →
    PollTurns k answer t close
poll_else k answer t close f n h u at e keeps =
    else_turns CreatesOn (Rounds u) NeverStops Kind.poll (Call.poll u) at close answer t (else_poll answer f n) h (rules.poll_spent at) refl (λ r. absurd r)

waits_on : (u t : Ticket) (at : ℕ) (more : List Step) (response : Response) → AfterPause t more response → Rounds u (Called (Call.poll u) at (Some (Reply.not_yet t)) ∷ more) response
waits_on u t at _ _ (paused more response p) = rules.not_yet at t p
waits_on u t at _ _ (gone more w) = rules.left_waiting at t w

tries_again : (u t : Ticket) (at : ℕ) (more : List Step) (response : Response) → t ≡ u → AfterPause t more response → Rounds u (Called (Call.poll u) at None ∷ more) response
tries_again u t at _ _ e (paused more response p) = rules.poll_lacks at (subst (λ (v : Ticket). Rounds v more response) e p)
tries_again u t at _ _ e (gone more w) = rules.left_lacking at (subst (λ (v : Ticket). Withdraws v more) e w)

pub poll_not_yet : (k : ℕ) (t : Ticket) (close : Bool) → PollTurns k (answers.Poll (polled.NotYet t)) (turn.Go (run.Creating (creating.Pausing t)) false) close
poll_not_yet k t close u at e keeps = ((no_start, to_pause poll_pause, (refl, refl), refl, (λ more response p. waits_on u t at more response p), (λ more p. absurd p)), refl)

pub poll_memory : (k : ℕ) (t : Ticket) (close : Bool) → PollTurns k (answers.Poll (polled.Memory t)) (turn.Go (run.Creating (creating.Pausing t)) true) close
poll_memory k t close u at e keeps = ((no_start, to_pause poll_pause, (refl, refl), refl, (λ more response p. tries_again u t at more response keeps p), (λ more p. absurd p)), refl)

first_want : (r : Reservation) (place : Place) → IsFirst place → (w : Wanted) × want_of (wanted_at r place) w
first_want r at_start b = (to_ask r.address (start_ask r.wanted), refl)
first_want r (at_fail why.NoMemory) b = (to_call (Call.fail r why.NoMemory), refl)
first_want r (at_fail (why.NodeRefused words)) b = absurd b
first_want r (at_fail why.Unreachable) b = absurd b
first_want r (at_fail why.NotHttp) b = absurd b
first_want r (at_fail why.BadReply) b = absurd b
first_want r (at_fail why.Mismatch) b = absurd b
first_want r (at_fail why.NodeGone) b = absurd b
first_want r (at_fail why.Duplicate) b = absurd b
first_want r (at_fail why.Late) b = absurd b
first_want r (at_bind session caps) b = absurd b
first_want r (at_return session) b = absurd b
first_want r (at_quit c) b = absurd b
first_want r (at_free c) b = absurd b
first_want r (at_end e) b = absurd b

starts_on : (u t : Ticket) (r : Reservation) (at : ℕ) (more : List Step) (response : Response) → GoesOnStarting t r [] more response →
    Rounds u (Called (Call.poll u) at (Some (Reply.yours t r)) ∷ more) response
starts_on u t r at _ _ (start_ends mine rest response s p) = rules.yours at t r s p
starts_on u t r at _ _ (start_finds_spent s) = rules.start_spent at t r s

pub poll_yours : (k : ℕ) (t : Ticket) (r : Reservation) (carry : Carry) (close : Bool) → IsNew carry r →
    PollTurns k (answers.Poll (polled.Yours t r)) (turn.Go (run.Creating (creating.Starting t carry)) false) close
poll_yours k t r carry close new u at e keeps =
    let w = first_want r new.place new.begins in
    ((starts r [], w.0, (r, [], refl, new.place, new.stands, w.1), refl, (λ more response p. starts_on u t r at more response p), (λ more p. absurd p)), refl)

-- ---- the outcome

created_is : (k : ℕ) (session : List ℕ) (caps : List Cap) (slot : SlotId) (address : List ℕ) (binding : ℕ) (close : Bool) (bytes : List ℕ) →
    bytes ≡ bytes_of (outcome_response k (outcome.Created session caps slot address binding)) close →
    PollTurns k (answers.Poll (polled.Settled (outcome.Created session caps slot address binding))) (turn.Created bytes session binding) close
created_is k session caps slot address binding close bytes h u at e keeps = (caps, rules.settled at (outcome.Created session caps slot address binding), h, refl)

pub outcome_created : (k : ℕ) (o : Outcome) (session : List ℕ) (caps : List Cap) (slot : SlotId) (address : List ℕ) (binding : ℕ) (close : Bool) (bytes : List ℕ) →
    o ≡ outcome.Created session caps slot address binding → bytes ≡ bytes_of (outcome_response k o) close →
    PollTurns k (answers.Poll (polled.Settled o)) (turn.Created bytes session binding) close
outcome_created k o session caps slot address binding close bytes e h =
    subst (λ (x : Outcome). PollTurns k (answers.Poll (polled.Settled x)) (turn.Created bytes session binding) close) (sym e)
    (created_is k session caps slot address binding close bytes (subst (λ (x : Outcome). bytes ≡ bytes_of (outcome_response k x) close) e h))

undo_is : (k : ℕ) (session : List ℕ) (caps : List Cap) (slot : SlotId) (address : List ℕ) (binding : ℕ) (close : Bool) →
    PollTurns k (answers.Poll (polled.Settled (outcome.Created session caps slot address binding))) (turn.Undo session binding) close
undo_is k session caps slot address binding close u at e keeps = (caps, rules.settled at (outcome.Created session caps slot address binding))

pub outcome_undo : (k : ℕ) (o : Outcome) (session : List ℕ) (caps : List Cap) (slot : SlotId) (address : List ℕ) (binding : ℕ) (close : Bool) →
    o ≡ outcome.Created session caps slot address binding → PollTurns k (answers.Poll (polled.Settled o)) (turn.Undo session binding) close
outcome_undo k o session caps slot address binding close e =
    subst (λ (x : Outcome). PollTurns k (answers.Poll (polled.Settled x)) (turn.Undo session binding) close) (sym e) (undo_is k session caps slot address binding close)

settled_there : (k at : ℕ) (u : Ticket) (o : Outcome) → u.request ≡ k → Rounds u (Called (Call.poll u) at (Some (Reply.settled o)) ∷ []) (outcome_response k o)
settled_there k at u o e = subst (λ (n : ℕ). Rounds u (Called (Call.poll u) at (Some (Reply.settled o)) ∷ []) (outcome_response n o)) e (rules.settled at o)

pub outcome_other : (k : ℕ) (o : Outcome) (close : Bool) (r : Result (List ℕ) NoMemory) →
    ((session : List ℕ) (caps : List Cap) (slot : SlotId) (address : List ℕ) (binding : ℕ) → o ≢ outcome.Created session caps slot address binding) →
    IfOk r (λ bytes. bytes ≡ bytes_of (outcome_response k o) close) → PollTurns k (answers.Poll (polled.Settled o)) (responded r) close
outcome_other k (outcome.Created session caps slot address binding) close r n h u at e keeps = absurd (n session caps slot address binding refl)
outcome_other k (outcome.TimedOut deadline) close r n h u at e keeps =
    own_turns CreatesOn (Rounds u) NeverStops (Called (Call.poll u) at (Some (Reply.settled (outcome.TimedOut deadline))) ∷ []) close r _ _ (settled_there k at u (outcome.TimedOut deadline) e) refl h
outcome_other k (outcome.StartFailed w) close r n h u at e keeps =
    own_turns CreatesOn (Rounds u) NeverStops (Called (Call.poll u) at (Some (Reply.settled (outcome.StartFailed w))) ∷ []) close r _ _ (settled_there k at u (outcome.StartFailed w) e) refl h
outcome_other k outcome.Cleared close r n h u at e keeps =
    own_turns CreatesOn (Rounds u) NeverStops (Called (Call.poll u) at (Some (Reply.settled outcome.Cleared)) ∷ []) close r _ _ (settled_there k at u outcome.Cleared e) refl h

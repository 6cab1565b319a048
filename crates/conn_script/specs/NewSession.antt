-- A request for a new session (WebDriver §8.1).
use Rattle.std.specs.Prelude.{◌≡◌, ℕ, Bool, true, false, List, [], ◌∷◌, ◌++◌, None, Some, Ok, Err}
use Rattle.grid_types.specs.declared.capabilities.Cap.{Cap}
use Rattle.grid_types.specs.declared.entry.Outcome.{Outcome}
use Rattle.grid_types.specs.declared.entry.Outcome.TheVariants as outcome
use Rattle.grid_types.specs.declared.names.SlotId.{SlotId}
use Rattle.grid_types.specs.Tokens.{Ticket, Reservation}
use Rattle.grid_types.specs.Calls.{Call, Reply}
use Rattle.caps_merge.specs.declared.fault.CapsFault.{CapsFault}
use Rattle.caps_merge.specs.Merging.{BodyGives}
use Rattle.node_client.specs.Steps.{Step, Called, Spent, Paused}
use Rattle.node_client.specs.Start.{Start}
use Rattle.node_client.specs.Places.{Place, Leads, wanted_at, to_call}
use Rattle.conn_script.specs.Responses.{Response, hub_spent, left}
use Rattle.conn_script.specs.Ends.{EndsCreated}
use Rattle.conn_script.specs.Messages.{caps_refusal, enqueue_refusal, outcome_response}

-- the milliseconds between two polls of a request
abbrev pub poll_pause : ℕ
poll_pause = 15

-- a start of which a call found the hub spent
pub data SpentStart (r : Reservation) : List Step → Type 0 where
  spent_at : (steps : List Step) (place : Place) (call : Call) (at : ℕ) → Leads r place steps → wanted_at r place ≡ to_call call →
      SpentStart r (steps ++ Spent call at ∷ [])

abbrev pub is_created : Outcome → Bool
is_created (outcome.Created session caps slot address binding) = true
is_created o = false

-- The request is withdrawn, since its client has left: while a start for it is under way, again after a pause. A session that
-- was created meanwhile is ended. After any other outcome, and where the hub is spent, nothing more.
pub data Withdraws : Ticket → List Step → Type 0 where
  is_withdrawn : {t : Ticket} (at : ℕ) → Withdraws t (Called (Call.withdraw t) at (Some Reply.withdrawn) ∷ [])
  is_held : {t : Ticket} {steps : List Step} (at : ℕ) (u : Ticket) → Withdraws u steps →
      Withdraws t (Called (Call.withdraw t) at (Some (Reply.not_yet u)) ∷ Paused poll_pause ∷ steps)
  was_created : {t : Ticket} {steps : List Step} (at : ℕ) (session : List ℕ) (caps : List Cap) (slot : SlotId) (address : List ℕ) (binding : ℕ) →
      EndsCreated session binding steps →
      Withdraws t (Called (Call.withdraw t) at (Some (Reply.settled (outcome.Created session caps slot address binding))) ∷ steps)
  was_settled : {t : Ticket} (at : ℕ) (o : Outcome) → is_created o ≡ false →
      Withdraws t (Called (Call.withdraw t) at (Some (Reply.settled o)) ∷ [])
  withdraw_spent : {t : Ticket} (at : ℕ) → Withdraws t (Spent (Call.withdraw t) at ∷ [])

-- Rounds of polls until the request is settled: after NotYet and after it was out of memory a pause, after Yours a start. In place
-- of a pause its client may be found to have left: then the request is withdrawn, and there is no response.
pub data Rounds : Ticket → List Step → Response → Type 0 where
  not_yet : {t : Ticket} {steps : List Step} {response : Response} (at : ℕ) (u : Ticket) → Rounds u steps response →
      Rounds t (Called (Call.poll t) at (Some (Reply.not_yet u)) ∷ Paused poll_pause ∷ steps) response
  poll_lacks : {t : Ticket} {steps : List Step} {response : Response} (at : ℕ) → Rounds t steps response →
      Rounds t (Called (Call.poll t) at None ∷ Paused poll_pause ∷ steps) response
  left_waiting : {t : Ticket} {steps : List Step} (at : ℕ) (u : Ticket) → Withdraws u steps →
      Rounds t (Called (Call.poll t) at (Some (Reply.not_yet u)) ∷ steps) left
  left_lacking : {t : Ticket} {steps : List Step} (at : ℕ) → Withdraws t steps →
      Rounds t (Called (Call.poll t) at None ∷ steps) left
  yours : {t : Ticket} {own steps : List Step} {response : Response} (at : ℕ) (u : Ticket) (r : Reservation) → Start r own → Rounds u steps response →
      Rounds t (Called (Call.poll t) at (Some (Reply.yours u r)) ∷ (own ++ steps)) response
  start_spent : {t : Ticket} {own : List Step} (at : ℕ) (u : Ticket) (r : Reservation) → SpentStart r own →
      Rounds t (Called (Call.poll t) at (Some (Reply.yours u r)) ∷ own) hub_spent
  settled : {t : Ticket} (at : ℕ) (o : Outcome) →
      Rounds t (Called (Call.poll t) at (Some (Reply.settled o)) ∷ []) (outcome_response t.request o)
  poll_spent : {t : Ticket} (at : ℕ) → Rounds t (Spent (Call.poll t) at ∷ []) hub_spent

-- a request for one of these choices
pub data Asks (choices : List (List Cap)) : List Step → Response → Type 0 where
  queued : {steps : List Step} {response : Response} (at : ℕ) (t : Ticket) → Rounds t steps response →
      Asks choices (Called (Call.enqueue choices) at (Some (Reply.queued t)) ∷ steps) response
  not_queued : (at : ℕ) (reply : Reply) (response : Response) → enqueue_refusal reply ≡ Some response →
      Asks choices (Called (Call.enqueue choices) at (Some reply) ∷ []) response
  enqueue_spent : (at : ℕ) → Asks choices (Spent (Call.enqueue choices) at ∷ []) hub_spent

-- the steps of a New Session with this body, and its response
pub data NewSession (body : List ℕ) : List Step → Response → Type 0 where
  no_choices : (fault : CapsFault) → BodyGives body (Err fault) → NewSession body [] (caps_refusal fault)
  asks : {steps : List Step} {response : Response} (choices : List (List Cap)) → BodyGives body (Ok choices) → Asks choices steps response →
      NewSession body steps response

-- where being out of memory ends the steps: only where the request is not queued yet
pub data AskLacks (choices : List (List Cap)) : List Step → Type 0 where
  ask_lacks : (at : ℕ) → AskLacks choices (Called (Call.enqueue choices) at None ∷ [])

abbrev pub EnqueueLacks : List ℕ → List Step → Type 0
EnqueueLacks body steps = (choices : List (List Cap)) × BodyGives body (Ok choices) × AskLacks choices steps

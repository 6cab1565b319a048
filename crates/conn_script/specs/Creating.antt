-- A New Session under way.
use Rattle.std.specs.Prelude.{◌≡◌, ◌≢◌, ◌||◌, is_some, ℕ, Bool, true, false, List, [], ◌∷◌, ◌++◌, Option, None, Some}
use Rattle.grid_types.specs.declared.capabilities.Cap.{Cap}
use Rattle.grid_types.specs.Tokens.{Ticket, Reservation}
use Rattle.grid_types.specs.Calls.{Call}
use Rattle.hub_core.specs.declared.answers.Binding.{Binding}
use Rattle.hub_core.specs.declared.answers.Failing.{Failing}
use Rattle.node_client.specs.declared.carry.Carry.{Carry}
use Rattle.node_client.specs.declared.wants.CarryAnswer.{CarryAnswer}
use Rattle.node_client.specs.Steps.{Step, Paused, met_want}
use Rattle.node_client.specs.Start.{Start}
use Rattle.node_client.specs.Places as places
use Rattle.node_client.specs.Places.{Place, wanted_at}
use Rattle.node_client.specs.Carrying as carrying
use Rattle.node_client.specs.Carrying.{Stands, awaited, held, is_fresh}
use Rattle.node_client.specs.Held.{carry_tokens}
use Rattle.conn_script.specs.declared.creating.Creating.{Creating}
use Rattle.conn_script.specs.declared.creating.Creating.TheVariants as creating
use Rattle.conn_script.specs.declared.turn.Turn.{Turn}
use Rattle.conn_script.specs.declared.turn.Turn.TheVariants as turn
use Rattle.conn_script.specs.declared.turn.Run.{Run}
use Rattle.conn_script.specs.declared.turn.Run.TheVariants as run
use Rattle.conn_script.specs.declared.wants.HubAnswer.{HubAnswer}
use Rattle.conn_script.specs.declared.wants.HubAnswer.TheVariants as answers
use Rattle.conn_script.specs.Responses.{Response, hub_spent, left, spent_text}
use Rattle.conn_script.specs.NewSession.{Rounds, Withdraws, SpentStart, Asks, AskLacks, poll_pause}
use Rattle.conn_script.specs.Wanted.{Wanted, to_call, to_ask, to_pause, call_step, FitsKind, Keeps, Kind, kind_of}
use Rattle.conn_script.specs.Turns.{Turns, Completes, Stops}

-- what of the past is needed while a script goes on: of a start that is under way its reservation and the steps that it made
pub data Aim : Type 0 where
  no_start : Aim
  starts : (r : Reservation) (so_far : List Step) → Aim

-- the steps of the start that is under way
abbrev pub aim_steps : Aim → List Step
aim_steps no_start = []
aim_steps (starts r so_far) = so_far

-- ---- a start

-- a want of a start as one of the connection
abbrev pub want_of : places.Wanted → Wanted → Type 0
want_of (places.to_ask address ask) w = w ≡ to_ask address ask
want_of (places.to_call call) w = w ≡ to_call call
want_of (places.over e) w = ⊥

-- the start goes on after the steps so far, and then the rounds; or it finds the hub spent
pub data GoesOnStarting (t : Ticket) (r : Reservation) (so_far : List Step) : List Step → Response → Type 0 where
  start_ends : (own rest : List Step) (response : Response) → Start r (so_far ++ own) → Rounds t rest response →
      GoesOnStarting t r so_far (own ++ rest) response
  start_finds_spent : {own : List Step} → SpentStart r (so_far ++ own) → GoesOnStarting t r so_far own hub_spent

-- which kind of call a start asks for
abbrev pub kind_in : carrying.Kind → Kind
kind_in carrying.Exchange = Kind.other
kind_in carrying.Bind = Kind.bind
kind_in carrying.Fail = Kind.fail
kind_in carrying.Freed = Kind.freed

abbrev pub kind_in_some : Option carrying.Kind → Option Kind
kind_in_some None = None
kind_in_some (Some k) = Some (kind_in k)

abbrev pub kind_or_other : Option carrying.Kind → Kind
kind_or_other None = Kind.other
kind_or_other (Some k) = kind_in k

-- the kind of the call that was taken
abbrev pub carry_awaits : Carry → Kind
carry_awaits carry = kind_or_other (awaited carry)

-- ---- what is wanted there

abbrev pub CreateWants : Creating → Aim → Wanted → Type 0
CreateWants (creating.Enqueue choices) aim w = (aim ≡ no_start) × (w ≡ to_call (Call.enqueue choices))
CreateWants creating.Enqueuing aim w = (aim ≡ no_start) × (choices : List (List Cap)) × (w ≡ to_call (Call.enqueue choices))
CreateWants (creating.Poll t) aim w = (aim ≡ no_start) × (w ≡ to_call (Call.poll t))
CreateWants (creating.Polling n) aim w = (aim ≡ no_start) × (t : Ticket) × (w ≡ to_call (Call.poll t)) × (t.request ≡ n)
CreateWants (creating.Pausing t) aim w = (aim ≡ no_start) × (w ≡ to_pause poll_pause)
CreateWants (creating.Starting t carry) aim w =
    (r : Reservation) × (so_far : List Step) × (aim ≡ starts r so_far) × (place : Place) × Stands carry r place so_far × want_of (wanted_at r place) w

-- what goes on from there
abbrev pub EnqueuedFollows : Wanted → List Step → Response → Type 0
EnqueuedFollows (to_call (Call.enqueue choices)) more response = Asks choices more response
EnqueuedFollows w more response = ⊥

abbrev pub PolledFollows : Wanted → List Step → Response → Type 0
PolledFollows (to_call (Call.poll t)) more response = Rounds t more response
PolledFollows w more response = ⊥

-- the end of the pause, or a client that left in place of it
pub data AfterPause (t : Ticket) : List Step → Response → Type 0 where
  paused : (more : List Step) (response : Response) → Rounds t more response → AfterPause t (Paused poll_pause ∷ more) response
  gone : (more : List Step) → Withdraws t more → AfterPause t more left

abbrev pub StartFollows : Ticket → Aim → List Step → Response → Type 0
StartFollows t no_start more response = ⊥
StartFollows t (starts r so_far) more response = GoesOnStarting t r so_far more response

abbrev pub CreateFollows : Creating → Aim → Wanted → List Step → Response → Type 0
CreateFollows (creating.Enqueue choices) aim w more response = Asks choices more response
CreateFollows creating.Enqueuing aim w more response = EnqueuedFollows w more response
CreateFollows (creating.Poll t) aim w more response = Rounds t more response
CreateFollows (creating.Polling n) aim w more response = PolledFollows w more response
CreateFollows (creating.Pausing t) aim w more response = AfterPause t more response
CreateFollows (creating.Starting t carry) aim w more response = StartFollows t aim more response

-- what of it may stand where memory was wanted
abbrev pub EnqueuedStops : Wanted → List Step → Type 0
EnqueuedStops (to_call (Call.enqueue choices)) more = AskLacks choices more
EnqueuedStops w more = ⊥

abbrev pub CreateStops : Creating → Wanted → List Step → Type 0
CreateStops (creating.Enqueue choices) w more = AskLacks choices more
CreateStops creating.Enqueuing w more = EnqueuedStops w more
CreateStops c w more = ⊥

-- a run that goes on as a New Session, of whose start no step is made
abbrev pub CreatesOn : Run → Completes → Stops → Type 0
CreatesOn (run.Creating c) completes stops =
    (aim : Aim) × (w : Wanted) × CreateWants c aim w × (aim_steps aim ≡ [])
    × ((more : List Step) (response : Response) → CreateFollows c aim w more response → completes more response)
    × ((more : List Step) → CreateStops c w more → stops more)
CreatesOn r completes stops = ⊥

-- ---- what each answer leads to

abbrev pub EnqueueTurns : HubAnswer → Turn → Bool → Type 0
EnqueueTurns answer t close =
    (choices : List (List Cap)) (at : ℕ) → Turns CreatesOn (Asks choices) (AskLacks choices) (call_step answer (Call.enqueue choices) at ∷ []) close t

-- being out of memory does not end the rounds
abbrev pub NeverStops : List Step → Type 0
NeverStops steps = ⊥

abbrev pub PollTurns : ℕ → HubAnswer → Turn → Bool → Type 0
PollTurns n answer t close =
    (u : Ticket) (at : ℕ) → u.request ≡ n → Keeps answer (Call.poll u) →
    Turns CreatesOn (Rounds u) NeverStops (call_step answer (Call.poll u) at ∷ []) close t

abbrev pub PauseTurns : Ticket → Turn → Type 0
PauseTurns u t = (close : Bool) → Turns CreatesOn (AfterPause u) NeverStops (Paused poll_pause ∷ []) close t

-- A start has made these steps by now. It goes on and is not over; or it is over and the request is polled again; or it found the hub
-- spent. Whether it was out of memory is told where it ends.
abbrev pub StartGoesOn : Ticket → Reservation → List Step → Run → Bool → Type 0
StartGoesOn t r by_now (run.Creating (creating.Starting u carry)) short =
    (u ≡ t) × (place : Place) × Stands carry r place by_now × ((w : Wanted) × want_of (wanted_at r place) w) × (is_fresh carry ≡ true) × (short ≡ false)
StartGoesOn t r by_now (run.Creating (creating.Poll u)) short = (u ≡ t) × Start r by_now × (short ≡ met_want by_now)
StartGoesOn t r by_now other short = ⊥

abbrev pub StartLeads : Ticket → Reservation → List Step → Turn → Type 0
StartLeads t r by_now (turn.Go next short) = StartGoesOn t r by_now next short
StartLeads t r by_now (turn.Respond bytes) = ⊥
StartLeads t r by_now (turn.RespondLast bytes short) = SpentStart r by_now × (bytes ≡ spent_text) × (short ≡ met_want by_now)
StartLeads t r by_now (turn.Created bytes session binding) = ⊥
StartLeads t r by_now (turn.Undo session binding) = ⊥
StartLeads t r by_now turn.Lacks = SpentStart r by_now

-- an answer of the hub to the call of a start
abbrev pub StartTurns : Ticket → Carry → HubAnswer → Turn → Type 0
StartTurns t carry answer next =
    (r : Reservation) (place : Place) (so_far : List Step) (call : Call) (at : ℕ) → Stands carry r place so_far → wanted_at r place ≡ places.to_call call →
    FitsKind answer (kind_of call) → Keeps answer call → StartLeads t r (so_far ++ call_step answer call at ∷ []) next

-- any answer that the start takes
abbrev pub StartMoves : Ticket → Carry → CarryAnswer → Turn → Type 0
StartMoves t carry answer next =
    (r : Reservation) (place : Place) (so_far : List Step) (at : ℕ) → Stands carry r place so_far → places.Fits answer (wanted_at r place) →
    StartLeads t r (so_far ++ places.made answer (wanted_at r place) at) next

-- over with these steps, or something else is wanted
abbrev pub IsOverAt : Bool → Reservation → Place → List Step → Type 0
IsOverAt true r place so_far = Start r so_far × (places.gives_up_at place ≡ false)
IsOverAt false r place so_far = (w : Wanted) × want_of (wanted_at r place) w

-- whether a start is over
abbrev pub IsOverNow : Carry → Bool → Type 0
IsOverNow carry is_over = (r : Reservation) (place : Place) (so_far : List Step) → Stands carry r place so_far → IsOverAt is_over r place so_far

-- a start that is over holds no token; another awaits an answer, or a call of it is there to be taken
abbrev pub IsLeft : Bool → Carry → Type 0
IsLeft true carry = carry_tokens carry ≡ []
IsLeft false carry = (is_some (awaited carry) || is_some (held carry)) ≡ true

-- the answer is none to a bind or a failure
pub record IsOther (answer : HubAnswer) : Type 0 where
  pub no_bind : (b : Binding) → answer ≢ answers.Bind b
  pub no_fail : (f : Failing) → answer ≢ answers.Fail f

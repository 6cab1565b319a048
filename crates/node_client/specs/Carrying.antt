-- What a `Carry` stands for, and what its calls do.
use Rattle.std.specs.Prelude.{◌≡◌, ℕ, ◌<◌, Bool, true, false, ◌||◌, List, [], ◌∷◌, ◌++◌, Option, None, Some, is_some, Ok}
use Rattle.grid_types.specs.declared.capabilities.Cap.{Cap}
use Rattle.grid_types.specs.declared.entry.FailWhy.{FailWhy}
use Rattle.grid_types.specs.declared.entry.FailWhy.TheVariants as why
use Rattle.grid_types.specs.Permitted.{is_start_failure}
use Rattle.grid_types.specs.Tokens.{Reservation, Closing}
use Rattle.wd_bodies.specs.Bodies.{start_bytes}
use Rattle.node_client.specs.declared.wants.CarryEnd.{CarryEnd}
use Rattle.node_client.specs.declared.wants.CarryWant.{CarryWant}
use Rattle.node_client.specs.declared.wants.CarryWant.TheVariants as wants
use Rattle.node_client.specs.declared.wants.CarryAnswer.{CarryAnswer}
use Rattle.node_client.specs.declared.wants.CarryAnswer.TheVariants as answers
use Rattle.node_client.specs.declared.carry.Carry.{Carry}
use Rattle.node_client.specs.declared.carry.State.{State}
use Rattle.node_client.specs.declared.carry.State.TheVariants as states
use Rattle.node_client.specs.Asks.{session_path}
use Rattle.node_client.specs.Held.{of_reservation, of_closing, tokens_in, carry_tokens, told_tokens}
use Rattle.node_client.specs.Paths.{path_text}
use Rattle.node_client.specs.Steps.{Step, met_want, bound_one}
use Rattle.http_frames.specs.declared.replies.NodeReply.{NodeReply}
use Rattle.grid_outside.specs.declared.exchange.Reply.TheVariants as reply
use Rattle.grid_outside.specs.Exchanges.{Came}
use Rattle.node_client.specs.Replies.{Says, created}
use Rattle.node_client.specs.Start.{Start}
use Rattle.node_client.specs.Places.{Place, at_start, at_bind, at_return, at_fail, at_quit, at_free, at_end, Leads, wanted_at, Shows, made, Fits, Moves, gives_up_at, is_bound_at}

-- what a start is about to do: an exchange, or a call of the hub
pub data Kind : Type 0 where
  Exchange : Kind
  Bind : Kind
  Fail : Kind
  Freed : Kind

abbrev pub kind_of : CarryAnswer → Kind
kind_of (answers.Node came) = Exchange
kind_of (answers.Bound b) = Bind
kind_of (answers.Failed f) = Fail
kind_of answers.Freed = Freed

abbrev pub awaited_in : State → Option Kind
awaited_in (states.Asking r body) = Some Exchange
awaited_in (states.Returning r path) = Some Exchange
awaited_in (states.Quitting c path) = Some Exchange
awaited_in states.Binding = Some Bind
awaited_in states.Failing = Some Fail
awaited_in states.Freeing = Some Freed
awaited_in s = None

abbrev pub held_in : State → Option Kind
held_in (states.ToBind r session caps) = Some Bind
held_in (states.ToFail r w) = Some Fail
held_in (states.ToFree c) = Some Freed
held_in s = None

abbrev pub is_fresh_in : State → Bool
is_fresh_in states.Binding = false
is_fresh_in states.Failing = false
is_fresh_in states.Freeing = false
is_fresh_in s = true

-- what kind of answer `feed` may be given
unfoldable pub awaited : Carry → Option Kind
awaited carry = awaited_in carry.state

-- what kind of call is there to be taken
unfoldable pub held : Carry → Option Kind
held carry = held_in carry.state

-- `next` may be called: no call that was taken waits for its answer
unfoldable pub is_fresh : Carry → Bool
is_fresh carry = is_fresh_in carry.state

-- how much is left to do
abbrev pub work_in : State → ℕ
work_in (states.Asking r body) = 4
work_in (states.ToBind r session caps) = 3
work_in states.Binding = 3
work_in (states.Returning r path) = 2
work_in (states.Quitting c path) = 2
work_in (states.ToFail r w) = 1
work_in states.Failing = 1
work_in (states.ToFree c) = 1
work_in states.Freeing = 1
work_in (states.Done e) = 0

unfoldable pub work : Carry → ℕ
work carry = work_in carry.state

-- the state is that of the place
abbrev pub IsIn : State → Reservation → Place → Type 0
IsIn (states.Asking q body) r place = (q ≡ r) × (place ≡ at_start) × (body ≡ start_bytes q.wanted)
IsIn (states.ToBind q session caps) r place = (q ≡ r) × (place ≡ at_bind session caps)
IsIn states.Binding r place = (session : List ℕ) × (caps : List Cap) ×
    (place ≡ at_bind session caps)
IsIn (states.Returning q path) r place = (q ≡ r) × (session : List ℕ) ×
    (place ≡ at_return session) × (path_text path ≡ session_path session)
IsIn (states.ToFail q w) r place = (q ≡ r) × (place ≡ at_fail w)
IsIn states.Failing r place = (w : FailWhy) × (place ≡ at_fail w)
IsIn (states.Quitting c path) r place = (place ≡ at_quit c) ×
    (path_text path ≡ session_path c.session)
IsIn (states.ToFree c) r place = place ≡ at_free c
IsIn states.Freeing r place = (c : Closing) × (place ≡ at_free c)
IsIn (states.Done e) r place = place ≡ at_end e

-- a start is given up for a cause of its own, and not for one that is the hub's
abbrev pub FailsRightly : Place → Type 0
FailsRightly (at_fail w) = is_start_failure w ≡ true
FailsRightly place = Unit {0}

-- after these steps the start of the reservation is at the place
pub record Standing (short : Bool) (r : Reservation) (place : Place)
    (steps : List Step) : Type 0 where
  pub leads : Leads r place steps
  pub short_is : short ≡ (met_want steps || gives_up_at place)
  pub bound_is : bound_one steps ≡ is_bound_at place
  pub cause : FailsRightly place

-- The value stands for a start of this reservation that is at this place after these steps.
unfoldable pub Stands : Carry → Reservation → Place → List Step → Type 0
Stands carry r place steps = IsIn carry.state r place × Standing carry.short r place steps

-- this is so of each start that the value stands for
abbrev pub OfEach : Carry → (Reservation → Place → List Step → Type 0) → Type 0
OfEach carry P = (r : Reservation) (place : Place) (steps : List Step) →
    Stands carry r place steps → P r place steps

-- where a start begins: with its exchange, or, where there was no memory to write that,
-- by giving up
abbrev pub IsFirst : Place → Type 0
IsFirst at_start = Unit {0}
IsFirst (at_fail why.NoMemory) = Unit {0}
IsFirst place = ⊥

-- a start that has made no step, holds the reservation, may be asked what it wants, and is not over
pub record IsNew (carry : Carry) (r : Reservation) : Type 0 where
  pub tokens : carry_tokens carry ≡ of_reservation r ∷ []
  pub is_open : (is_some (awaited carry) || is_some (held carry)) ≡ true
  pub fresh : is_fresh carry ≡ true
  pub place : Place
  pub stands : Stands carry r place []
  pub begins : IsFirst place

-- a call of this kind may be taken, and nothing is awaited yet
abbrev pub IsHeld : Carry → Kind → Type 0
IsHeld carry kind = (held carry ≡ Some kind) × (awaited carry ≡ None)

-- What may be done after a want. At the end no token is held.
abbrev pub Readies : Carry → CarryWant → Type 0
Readies carry (wants.Node address request) = (awaited carry ≡ Some Exchange) × (held carry ≡ None)
Readies carry wants.Bind = IsHeld carry Bind
Readies carry wants.Fail = IsHeld carry Fail
Readies carry wants.Freed = IsHeld carry Freed
Readies carry (wants.Done e) = (awaited carry ≡ None) × (held carry ≡ None) ×
    (carry_tokens carry ≡ [])

-- At the end the steps are a start, and it ended as the hub answered.
pub record Finished (e : CarryEnd) (r : Reservation) (steps : List Step) : Type 0 where
  pub start : Start r steps
  pub bound_is : bound_one steps ≡ is_bound_at (at_end e)

abbrev pub FinishedAt : Place → Reservation → List Step → Type 0
FinishedAt (at_end e) r steps = Finished e r steps
FinishedAt place r steps = Unit {0}

pub record Tells (want : CarryWant) (r : Reservation) (place : Place)
    (steps : List Step) : Type 0 where
  pub shows : Shows want (wanted_at r place)
  pub finished : FinishedAt place r steps

-- a want is told
pub record HandsOut (carry : Carry) (want : CarryWant) : Type 0 where
  pub readies : Readies carry want
  pub tells : (r : Reservation) (place : Place) (steps : List Step) → Stands carry r place steps →
      Tells want r place steps

-- A call was taken: the value stands for the same, and awaits the answer.
pub record Takes (old : Carry) (kind : Kind) (new : Carry) : Type 0 where
  pub waits : awaited new ≡ Some kind
  pub work_is : work new ≡ work old
  pub stands : (r : Reservation) (place : Place) (steps : List Step) → Stands old r place steps →
      Stands new r place steps

-- an answer has moved the start on by its step
pub record Moved (r : Reservation) (place : Place) (answer : CarryAnswer) (new : Carry)
    (steps : List Step) : Type 0 where
  pub to : Place
  pub moves : Moves r place answer to
  pub stands : Stands new r to steps

-- what the value stood for goes on with the step that was made, at whatever moment
pub record Feeds (old : Carry) (answer : CarryAnswer) (new : Carry) : Type 0 where
  pub fresh : is_fresh new ≡ true
  pub less : work new < work old
  pub tokens : carry_tokens new ≡ told_tokens answer ++ carry_tokens old
  pub moved : (r : Reservation) (place : Place) (steps : List Step) (at : ℕ) →
      Stands old r place steps → Fits answer (wanted_at r place) →
      Moved r place answer new (steps ++ made answer (wanted_at r place) at)

-- where a closing leads
pub data ClosesAt (c : Closing) : Place → Type 0 where
  by_quit : c.quit ≡ true → ClosesAt c (at_quit c)
  at_once : c.quit ≡ false → ClosesAt c (at_free c)

-- the session that came of an exchange
pub data NamedBy : Came → List ℕ → List Cap → Type 0 where
  named_by : (answer : NodeReply) (session : List ℕ) (caps : List Cap) →
      Says answer.status answer.body (created session caps) →
      NamedBy (Ok (reply.Http answer)) session caps

-- what came of the request for a session has led on
pub record Answered (short : Bool) (r : Reservation) (came : Came) (new : Carry) : Type 0 where
  pub to : Place
  pub moves : Moves r at_start (answers.Node came) to
  pub is_in : IsIn new.state r to
  pub fresh : is_fresh_in new.state ≡ true
  pub less : work_in new.state < 4
  pub tokens : tokens_in new.state ≡ of_reservation r ∷ []
  pub short_is : new.short ≡ (short || gives_up_at to)

-- the session is to be ended, or its slot to be freed at once
pub record Closed (short : Bool) (c : Closing) (new : Carry) : Type 0 where
  pub to : Place
  pub closes : ClosesAt c to
  pub is_in : (r : Reservation) → IsIn new.state r to
  pub fresh : is_fresh_in new.state ≡ true
  pub less : work_in new.state < 3
  pub tokens : tokens_in new.state ≡ of_closing c ∷ []
  pub short_is : new.short ≡ short

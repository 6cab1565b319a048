-- What a connection stands for, and what its calls do.
use Rattle.std.specs.Prelude.{◌≡◌, ℕ, ◌+◌, ◌-◌, ◌<◌, ◌≤◌, ◌≢◌, min, Bool, true, false, List, [], ◌++◌, length, take, drop, Option, None, Result, Ok, Err, IfOk, IsTrue, is_some}
use Rattle.std.specs.Borrow.{Bor}
use Rattle.http_frames.specs.declared.FrameFault.{FrameFault}
use Rattle.http_frames.specs.declared.frames.TheConstants.{LIMITS}
use Rattle.http_frames.specs.Frames as on
use Rattle.http_frames.specs.Frames.{Request, IsRefused, closes, expects}
use Rattle.grid_outside.specs.Exchanges.{is_within}
use Rattle.node_client.specs.Held.{Token}
use Rattle.node_client.specs.Steps.{Step, met_want}
use Rattle.grid_types.specs.declared.capabilities.Cap.{Cap}
use Rattle.grid_types.specs.Tokens.{Ticket}
use Rattle.conn_script.specs.declared.wants.Want.{Want}
use Rattle.conn_script.specs.declared.wants.Want.TheVariants as wants
use Rattle.conn_script.specs.declared.wants.HubCall.{HubCall}
use Rattle.conn_script.specs.declared.wants.HubCall.TheVariants as calls
use Rattle.conn_script.specs.declared.wants.Answer.{Answer}
use Rattle.conn_script.specs.declared.wants.Answer.TheVariants as told
use Rattle.conn_script.specs.declared.wants.End.{End}
use Rattle.conn_script.specs.declared.wants.End.TheVariants as ends
use Rattle.conn_script.specs.declared.wants.ConnFault.{ConnFault}
use Rattle.conn_script.specs.declared.wants.ConnFault.TheVariants as faults
use Rattle.conn_script.specs.declared.wants.Served.{Served}
use Rattle.conn_script.specs.declared.wants.TheConstants.{LIMIT, PIECE}
use Rattle.conn_script.specs.declared.turn.Run.{Run}
use Rattle.conn_script.specs.declared.turn.Run.TheVariants as run
use Rattle.conn_script.specs.declared.turn.Turn.TheVariants as turns
use Rattle.conn_script.specs.declared.turn.Turn.{Turn}
use Rattle.conn_script.specs.declared.undoing.Undoing.{Undoing}
use Rattle.conn_script.specs.declared.undoing.Undoing.TheVariants as undoing
use Rattle.conn_script.specs.Ends.{EndsCreated}
use Rattle.conn_script.specs.Pauses.{ends_early}
use Rattle.conn_script.specs.Undo.{Undoes, UndoWants, UndoFollows, UndoLeads, undo_awaits, undo_held, undo_tokens, undo_goes_on, undo_leaves}
use Rattle.conn_script.specs.Responses.{Response, created, continue_text, bytes_of, is_last}
use Rattle.conn_script.specs.Script.{Script, Lacks}
use Rattle.conn_script.specs.Begin.{Begun, BegunLacks}
use Rattle.conn_script.specs.Wanted.{Wanted, to_read, to_write, to_begin, to_call, over, Shows, IsOver, Awaited, piece, count, begun, answer_to, nothing, Readies, Kind, kind_of, call_of, Fits, Made, bytes_in, taken_of, told_tokens, wanted_tokens, finds_spent}
use Rattle.conn_script.specs.Creating.{Aim, no_start, aim_steps}
use Rattle.conn_script.specs.Routing.{FirstTurn}
use Rattle.conn_script.specs.Running.{RunWants, RunFollows, RunStops, RunTurns, run_tokens, run_awaits, run_held}
use Rattle.conn_script.specs.Moving.{run_is_fresh}
use Rattle.hub_conn.specs.declared.talk.Talk.{Talk}
use Rattle.hub_conn.specs.declared.talk.State.{State}
use Rattle.hub_conn.specs.declared.talk.State.TheVariants as states
use Rattle.hub_conn.specs.declared.talk.Outgoing.{Outgoing}
use Rattle.hub_conn.specs.declared.talk.Then.{Then}
use Rattle.hub_conn.specs.declared.talk.Then.TheVariants as after
use Rattle.hub_conn.specs.declared.talk.Kept.{Kept}
use Rattle.hub_conn.specs.declared.talk.Kept.TheVariants as kept
use Rattle.hub_conn.specs.Conversation.{WriteBroke, Answers, Scripts, ReadsTo, Waits, Talked, Finished, IsUnended}
use Rattle.hub_conn.specs.Inbox.{unread, keeps_bytes, most_read, Holds, HoldsSome, HoldsWhole}
use Rattle.hub_conn.specs.Inbox as inbox
use Rattle.hub_conn.specs.Work.{FeedsLess, KeepsWork}

-- ---- causes outside

-- what of the outside ended it
pub data Cause : Type 0 where
  of_read of_write of_end of_nothing : Cause

abbrev pub cause_of : Answer → Cause
cause_of told.ReadFailed = of_read
cause_of told.Gone = of_read
cause_of told.WriteFailed = of_write
cause_of told.EndOfInput = of_end
cause_of answer = of_nothing

abbrev pub end_cause : End → Cause
end_cause ends.Closed = of_end
end_cause (ends.Cut at) = of_end
end_cause e = of_nothing

abbrev pub result_cause : Result Served ConnFault → Cause
result_cause (Err faults.Read) = of_read
result_cause (Err faults.Write) = of_write
result_cause (Err faults.Memory) = of_nothing
result_cause (Ok served) = end_cause served.end

-- ---- what a value stands for

-- requests that were answered, none of which closes, and the bytes behind them
pub record Answered (own : Option (List ℕ)) (frames : ℕ) (bytes rest : List ℕ) (steps : List Step) (responses : List ℕ) : Type 0 where
  pub requests : List Request
  pub reads : ReadsTo bytes requests rest
  pub scripts : Scripts own requests steps responses false
  pub count : frames ≡ length requests

-- what is counted: the bytes read, where the request at the front begins, and the requests answered
pub record Counts (talk : Talk) (bytes rest : List ℕ) : Type 0 where
  pub read : talk.read ≡ length bytes
  pub within : talk.read ≤ LIMIT
  pub begins : talk.begins + length rest ≡ talk.read
  pub few : talk.frames ≤ talk.begins

-- the script of the request at the front is under way: these steps were made, what goes before it among them
pub record UnderWay (own : Option (List ℕ)) (f : Request) (run : Run) (aim : Aim) (w : Wanted) (steps : List Step) : Type 0 where
  pub before : List Step
  pub mine : List Step
  pub begins : Begun own before
  pub wants : RunWants f run aim w
  pub leads : (more : List Step) (response : Response) → RunFollows f run aim w more response → Script f (mine ++ more) response
  pub stops : (more : List Step) → RunStops f run w more → Lacks f (mine ++ more)
  pub steps_are : steps ≡ before ++ mine

-- the request at the front is whole, and what its client waits for is written
pub record AtFront (talk : Talk) (rest : List ℕ) (f : Request) : Type 0 where
  pub holds : HoldsWhole talk.inbox rest f
  pub closes_is : talk.closes ≡ closes f.0
  pub continued_is : talk.continued ≡ expects LIMITS f.0
  pub waited : talk.continued ≡ true → Waits rest true

-- behind the requests that were answered: what is wanted, the steps since then, and what was written since then
abbrev pub InState : State → Talk → Option (List ℕ) → List ℕ → Aim → Wanted → List Step → List ℕ → Type 0
InState states.Reading talk own rest aim w mine written =
    (aim ≡ no_start) × (w ≡ to_read (min PIECE (LIMIT - talk.read))) × (talk.read < LIMIT) × Holds talk.inbox rest
    × Waits rest talk.continued × ((waits : Bool) × on.IsAwaited LIMITS rest waits) × (mine ≡ []) × (written ≡ continue_text talk.continued)
    × (unread talk.inbox ≡ [])
InState (states.Continuing sent) talk own rest aim w mine written =
    (aim ≡ no_start) × (w ≡ to_write (drop sent (continue_text true))) × (sent < 25) × Holds talk.inbox rest × Waits rest true
    × (mine ≡ []) × (written ≡ take sent (continue_text true))
InState states.Beginning talk own rest aim w mine written =
    (aim ≡ no_start) × (f : Request) × AtFront talk rest f × (w ≡ to_begin) × (mine ≡ []) × (written ≡ continue_text talk.continued)
InState (states.Running run) talk own rest aim w mine written =
    (f : Request) × AtFront talk rest f × UnderWay own f run aim w mine × (written ≡ continue_text talk.continued)
InState (states.Writing out) talk own rest aim w mine written = ⊥
InState (states.Undoing fault u) talk own rest aim w mine written = ⊥
InState (states.Done result) talk own rest aim w mine written = ⊥

-- Steps that are settled are those of which `short` tells: all but those of a start that is under way.
pub record Standing (s : State) (talk : Talk) (own : Option (List ℕ)) (w : Wanted) (bytes : List ℕ) (steps : List Step) (written : List ℕ) : Type 0 where
  pub rest : List ℕ
  pub before : List Step
  pub mine : List Step
  pub responses : List ℕ
  pub since : List ℕ
  pub answered : Answered own talk.frames bytes rest before responses
  pub steps_are : steps ≡ before ++ mine
  pub written_is : written ≡ responses ++ since
  pub counts : Counts talk bytes rest
  pub aim : Aim
  pub settled : List Step
  pub settled_are : steps ≡ settled ++ aim_steps aim
  pub short : talk.short ≡ met_want settled
  pub in_state : InState s talk own rest aim w mine since

-- where a response is broken off, these steps are done for it
abbrev pub kept_undoes : Kept → List Step → Type 0
kept_undoes kept.Nothing undone = undone ≡ []
kept_undoes (kept.Created session binding) undone = EndsCreated session binding undone

-- A response is written: what was taken and what is left are the responses to all requests that were answered, or the
-- whole conversation.
abbrev pub IsWriting : Then → Talk → Option (List ℕ) → List ℕ → List Step → List ℕ → Type 0
IsWriting after.Next talk own bytes steps all =
    (rest : List ℕ) × Answered own talk.frames bytes rest steps all × Holds talk.inbox rest × Counts talk bytes rest × (talk.continued ≡ false)
IsWriting (after.End end) talk own bytes steps all =
    Talked own (record { frames = talk.frames; end = end; short = talk.short }) bytes steps all × (end_cause end ≡ of_nothing)
    × HoldsSome talk.inbox

-- A piece of what is left is wanted next. Where a write fails, now or after more bytes were taken, what is done for the response makes the steps complete.
pub record Writes (talk : Talk) (out : Outgoing) (own : Option (List ℕ)) (w : Wanted) (bytes : List ℕ) (steps : List Step) (written : List ℕ) : Type 0 where
  pub unsent : List ℕ
  pub unsent_is : unsent ≡ drop out.sent out.bytes
  pub some : 0 < length unsent
  pub wants : w ≡ to_write (take PIECE unsent)
  pub short : talk.short ≡ met_want steps
  pub writing : IsWriting out.then talk own bytes steps (written ++ unsent)
  pub breaks : (taken left : List ℕ) (undone : List Step) → unsent ≡ taken ++ left → 0 < length left → kept_undoes out.kept undone →
      WriteBroke own bytes (steps ++ undone) (written ++ taken)

-- it waits only right behind a withdrawal that was told to
abbrev pub WaitsRightly : Undoing → List Step → Type 0
WaitsRightly (undoing.Waiting t) steps = ends_early steps ≡ true
WaitsRightly u steps = Unit {0}

-- a fault ends it, once what is left to do for a request that is withdrawn, or for a session that was created, is done
pub record IsUndoing (fault : ConnFault) (u : Undoing) (own : Option (List ℕ)) (w : Wanted) (bytes : List ℕ) (steps : List Step) (written : List ℕ) : Type 0 where
  pub wants : UndoWants u w
  pub waits : WaitsRightly u steps
  pub ends : (undone : List Step) → UndoFollows u w undone → Finished own (Err fault) bytes (steps ++ undone) written

abbrev pub StandsIn : State → Talk → Option (List ℕ) → Wanted → List ℕ → List Step → List ℕ → Type 0
StandsIn (states.Done result) talk own w bytes steps written = (w ≡ over result) × Finished own result bytes steps written
StandsIn (states.Writing out) talk own w bytes steps written = Writes talk out own w bytes steps written
StandsIn (states.Undoing fault u) talk own w bytes steps written = IsUndoing fault u own w bytes steps written
StandsIn s talk own w bytes steps written = Standing s talk own w bytes steps written

-- For a driver with these nodes of its own, or with none, the value wants this, and stands for these bytes fed, these steps
-- made and these bytes taken for writing.
unfoldable pub Stands : Talk → Option (List ℕ) → Wanted → List ℕ → List Step → List ℕ → Type 0
Stands talk own w bytes steps written = StandsIn talk.state talk own w bytes steps written

-- it stands for some
abbrev pub StandsForSome : Talk → Type 0
StandsForSome talk =
    (own : Option (List ℕ)) × (w : Wanted) × (bytes : List ℕ) × (steps : List Step) × (written : List ℕ) × Stands talk own w bytes steps written

-- ---- what may be called

abbrev pub state_awaits : State → ℕ → Awaited
state_awaits states.Reading read = piece (min PIECE (LIMIT - read))
state_awaits (states.Continuing sent) read = count (25 - sent)
state_awaits states.Beginning read = begun
state_awaits (states.Running run) read = run_awaits run
state_awaits (states.Writing out) read = count (min PIECE (length out.bytes - out.sent))
state_awaits (states.Undoing fault u) read = undo_awaits u
state_awaits (states.Done result) read = nothing

-- what kind of answer may be fed
unfoldable pub awaited : Talk → Awaited
awaited talk = state_awaits talk.state talk.read

abbrev pub state_held : State → Option Kind
state_held (states.Running run) = run_held run
state_held (states.Undoing fault u) = undo_held u
state_held state = None

-- which kind of call is there to be handed out
unfoldable pub held : Talk → Option Kind
held talk = state_held talk.state

abbrev pub IsHeld : Option Kind → Type 0
IsHeld o = is_some o ≡ true

abbrev pub is_fresh_in : State → Bool
is_fresh_in (states.Running run) = run_is_fresh run
is_fresh_in (states.Undoing fault u) = undo_goes_on u
is_fresh_in state = true

-- `next` may be called: no call that was handed out waits for its answer
unfoldable pub is_fresh : Talk → Bool
is_fresh talk = is_fresh_in talk.state

abbrev pub state_tokens : State → List Token
state_tokens (states.Running run) = run_tokens run
state_tokens (states.Undoing fault u) = undo_tokens u
state_tokens state = []

-- the tokens that it holds, those of a call that is to be handed out among them
unfoldable pub tokens : Talk → List Token
tokens talk = state_tokens talk.state

abbrev pub state_leaves : State → Bool
state_leaves (states.Undoing fault u) = undo_leaves u
state_leaves state = false

-- its client has left, and its request is being withdrawn
unfoldable pub leaves : Talk → Bool
leaves talk = state_leaves talk.state

-- ---- how many bytes it holds

abbrev pub state_writes : State → ℕ
state_writes (states.Writing out) = length out.bytes
state_writes state = 0

-- the bytes of the response that is written
unfoldable pub writes_bytes : Talk → ℕ
writes_bytes talk = state_writes talk.state

-- those of the request at the front, of the last piece, and of that response
unfoldable pub kept_bytes : Talk → ℕ
kept_bytes talk = keeps_bytes talk.inbox + state_writes talk.state

-- a command that is passed on to a node is under way
abbrev pub run_relays : Run → Bool
run_relays (run.Relaying r) = true
run_relays r = false

abbrev pub state_relays : State → Bool
state_relays (states.Running run) = run_relays run
state_relays state = false

unfoldable pub relays : Talk → Bool
relays talk = state_relays talk.state

-- the most bytes of the response to such a command: a body and values at their limits, and 256 bytes for the rest of a head
abbrev pub most_passed_on : ℕ
most_passed_on = 16_843_008

abbrev pub is_serving_in : State → Bool
is_serving_in (states.Undoing fault u) = false
is_serving_in (states.Done result) = false
is_serving_in state = true

-- it is not over, and nothing is done after a fault
unfoldable pub is_serving : Talk → Bool
is_serving talk = is_serving_in talk.state

-- so many bytes are held: the request at the front and the last piece within their limits, and the response
pub record IsKept (talk : Talk) (count : ℕ) : Type 0 where
  pub count_is : count ≡ kept_bytes talk
  pub within : count ≤ most_read + writes_bytes talk
  pub no_response : relays talk ≡ true → writes_bytes talk ≡ 0

-- ---- what is blamed

abbrev pub state_cause : State → Cause
state_cause (states.Done result) = result_cause result
state_cause (states.Undoing fault u) = result_cause (Err fault)
state_cause state = of_nothing

unfoldable pub blamed : Talk → Cause
blamed talk = state_cause talk.state

-- a fault that came first stays the cause while a session is ended
abbrev pub cause_after : Cause → Answer → Cause
cause_after of_nothing answer = cause_of answer
cause_after cause answer = cause

-- ---- the calls

-- nothing was read, and a piece is wanted
pub record IsNew (talk : Talk) : Type 0 where
  pub fresh : is_fresh talk ≡ true
  pub blames : blamed talk ≡ of_nothing
  pub no_tokens : tokens talk ≡ []
  pub stays : leaves talk ≡ false
  pub stands : (own : Option (List ℕ)) → Stands talk own (to_read PIECE) [] [] []

-- what a want says: at the end how it ended, with no token left but where the hub is spent; before a read that no request
-- is refused and none asks to close; before what goes before a request, that out of memory there ends it so
abbrev pub Says : Wanted → Option (List ℕ) → List ℕ → List Step → List ℕ → Type 0
Says (over result) own bytes steps written = Finished own result bytes steps written
Says (to_read most) own bytes steps written = (0 < most) × IsUnended own bytes steps written
Says (to_write unsent) own bytes steps written = 0 < length unsent
Says to_begin own bytes steps written =
    (lacking : List Step) → BegunLacks own lacking → Finished own (Err faults.Memory) bytes (steps ++ lacking) written
Says w own bytes steps written = Unit {0}

pub record Tells (want : Want) (own : Option (List ℕ)) (w : Wanted) (bytes : List ℕ) (steps : List Step) (written : List ℕ) : Type 0 where
  pub shows : Shows want w
  pub says : Says w own bytes steps written

-- A want is told. Before a request, and so wherever a driver can be out of memory by itself, nothing outside is blamed.
pub record HandsOut (talk : Talk) (want : Want) : Type 0 where
  pub readies : Readies want (awaited talk) (held talk)
  pub tells : (own : Option (List ℕ)) (w : Wanted) (bytes : List ℕ) (steps : List Step) (written : List ℕ) →
      Stands talk own w bytes steps written → Tells want own w bytes steps written
  pub no_tokens : IsOver want → tokens talk ≡ []
  pub unblamed : want ≡ wants.Begin → blamed talk ≡ of_nothing
  pub few : (text : Bor (List ℕ)) → want ≡ wants.Write text → length text.now ≤ PIECE
  pub blames : (result : Result Served ConnFault) → want ≡ wants.Done result → result_cause result ≡ blamed talk

-- A call is handed out, with its tokens; the value stands for the same, awaits the answer, and has as much left to do. A withdrawal
-- is handed out only where the client has left.
pub record Takes (old : Talk) (call : HubCall) (new : Talk) : Type 0 where
  pub waits : (own : Option (List ℕ)) (w : Wanted) (bytes : List ℕ) (steps : List Step) (written : List ℕ) → Stands old own w bytes steps written →
      awaited new ≡ answer_to (kind_of (call_of call))
  pub keeps : tokens old ≡ wanted_tokens (to_call (call_of call)) ++ tokens new
  pub blames : blamed new ≡ blamed old
  pub leaves_so : leaves new ≡ leaves old
  pub withdraws : (own : Option (List ℕ)) (w : Wanted) (bytes : List ℕ) (steps : List Step) (written : List ℕ) (t : Ticket) →
      Stands old own w bytes steps written → call ≡ calls.Withdraw t → leaves old ≡ true
  pub stands : (own : Option (List ℕ)) (w : Wanted) (bytes : List ℕ) (steps : List Step) (written : List ℕ) →
      Stands old own w bytes steps written → (w ≡ to_call (call_of call)) × Stands new own w bytes steps written
  pub work_is : KeepsWork old new

-- it stands for the same, wants, holds and blames the same, and has as much left to do
pub record IsRested (old new : Talk) : Type 0 where
  pub fresh : is_fresh new ≡ is_fresh old
  pub blames : blamed new ≡ blamed old
  pub keeps : tokens new ≡ tokens old
  pub leaves_so : leaves new ≡ leaves old
  pub awaits : awaited new ≡ awaited old
  pub holds : held new ≡ held old
  pub stands : (own : Option (List ℕ)) (w : Wanted) (bytes : List ℕ) (steps : List Step) (written : List ℕ) →
      Stands old own w bytes steps written → Stands new own w bytes steps written
  pub work_is : KeepsWork old new

-- it holds no table of paths, and no memory for bytes that aren't there or are done with
abbrev pub HasNoSpare : Talk → Type 0
HasNoSpare talk = (talk.router ≡ None) × inbox.HasNoSpare talk.inbox

-- the tokens after an answer: those that it brings and those that were held; none where the hub is spent
abbrev pub KeepsTokens : Talk → Answer → Talk → Type 0
KeepsTokens old answer new =
    (finds_spent answer ≡ false → tokens new ≡ told_tokens answer ++ tokens old) × (finds_spent answer ≡ true → tokens new ≡ [])

-- an answer whose reply, where it has one, is no larger than a reply may be
abbrev pub IsWithin : Answer → Type 0
IsWithin (told.Node came) = IfOk came (λ reply. IsTrue (is_within reply))
IsWithin answer = Unit {0}

-- a response that is written isn't taken whole with so many more bytes
abbrev pub HasLeft : State → ℕ → Type 0
HasLeft (states.Writing out) n = out.sent + n < length out.bytes
HasLeft state n = ⊥

-- how large a response is that is written: to a command that is passed on at most so many bytes, and the same until it is taken whole
pub record FeedsFew (old : Talk) (answer : Answer) (new : Talk) : Type 0 where
  pub passes : (own : Option (List ℕ)) (w : Wanted) (bytes : List ℕ) (steps : List Step) (written : List ℕ) (made : List Step) →
      Stands old own w bytes steps written → Fits answer w → Made own answer w made → relays old ≡ true → IsWithin answer → writes_bytes new ≤ most_passed_on
  pub stays : (n : ℕ) → answer ≡ told.Wrote n → HasLeft old.state n → writes_bytes new ≡ writes_bytes old

-- Whatever it stood for, it stands for that with these bytes, steps and written bytes at the end, and has less left to do. No request
-- is withdrawn of which the client wasn't told to have left.
pub record Feeds (old : Talk) (answer : Answer) (new : Talk) : Type 0 where
  pub fresh : is_fresh new ≡ true
  pub blames : blamed new ≡ cause_after (blamed old) answer
  pub keeps : KeepsTokens old answer new
  pub stays : answer ≢ told.Gone → leaves old ≡ false → leaves new ≡ false
  pub stands : (own : Option (List ℕ)) (w : Wanted) (bytes : List ℕ) (steps : List Step) (written : List ℕ) (made : List Step) →
      Stands old own w bytes steps written → Fits answer w → Made own answer w made →
      (next : Wanted) × Stands new own next (bytes ++ bytes_in answer) (steps ++ made) (written ++ taken_of answer w)
  pub less : FeedsLess old answer new
  pub few : FeedsFew old answer new

-- ---- what the steps inside keep

-- the response that a turn begins to write, if any
abbrev pub TurnWrites : Turn → Talk → Type 0
TurnWrites (turns.Respond bytes) new = writes_bytes new ≡ length bytes
TurnWrites (turns.RespondLast bytes short) new = writes_bytes new ≡ length bytes
TurnWrites (turns.Created bytes session binding) new = writes_bytes new ≡ length bytes
TurnWrites turn new = writes_bytes new ≡ 0

-- a value that may be asked what it wants, with this cause and these tokens; no request is withdrawn
pub record Settles (new : Talk) (cause : Cause) (held : List Token) : Type 0 where
  pub fresh : is_fresh new ≡ true
  pub blames : blamed new ≡ cause
  pub holds : tokens new ≡ held
  pub stays : leaves new ≡ false

-- it ended with this fault, or so
abbrev pub HasFailed : Talk → ConnFault → Talk → Type 0
HasFailed old fault new = new.state ≡ states.Done (Err fault)

abbrev pub HasEnded : Talk → End → Talk → Type 0
HasEnded old end new = new.state ≡ states.Done (Ok (record { frames = old.frames; end = end; short = old.short }))

-- ---- what stays while the state is changed

pub record SameBut (old new : Talk) : Type 0 where
  pub inbox : new.inbox ≡ old.inbox
  pub read : new.read ≡ old.read
  pub begins : new.begins ≡ old.begins
  pub frames : new.frames ≡ old.frames

-- all but the state
pub record Rests (old new : Talk) : Type 0 where
  pub same : SameBut old new
  pub short : new.short ≡ old.short
  pub continued : new.continued ≡ old.continued
  pub closing : new.closes ≡ old.closes

-- ---- between requests

-- the requests so far are answered, and the bytes behind them are to be looked at
pub record IsBetween (talk : Talk) (own : Option (List ℕ)) (bytes : List ℕ) (steps : List Step) (written : List ℕ) : Type 0 where
  pub rest : List ℕ
  pub responses : List ℕ
  pub answered : Answered own talk.frames bytes rest steps responses
  pub holds : Holds talk.inbox rest
  pub waited : talk.continued ≡ true → Waits rest true
  pub written_is : written ≡ responses ++ continue_text talk.continued
  pub counts : Counts talk bytes rest
  pub short : talk.short ≡ met_want steps

-- the same where it is known whether the client at the front waits, and the `100 Continue` is written that is due
pub record IsReadOn (talk : Talk) (own : Option (List ℕ)) (bytes rest : List ℕ) (steps : List Step) (written : List ℕ) : Type 0 where
  pub responses : List ℕ
  pub answered : Answered own talk.frames bytes rest steps responses
  pub holds : Holds talk.inbox rest
  pub waits : Waits rest talk.continued
  pub written_is : written ≡ responses ++ continue_text talk.continued
  pub counts : Counts talk bytes rest
  pub short : talk.short ≡ met_want steps

-- then something is wanted
abbrev pub StandsNow : Talk → Option (List ℕ) → List ℕ → List Step → List ℕ → Type 0
StandsNow new own bytes steps written = (w : Wanted) × Stands new own w bytes steps written

abbrev pub Looks : Talk → Talk → Type 0
Looks old new = (own : Option (List ℕ)) (bytes : List ℕ) (steps : List Step) (written : List ℕ) →
    IsBetween old own bytes steps written → StandsNow new own bytes steps written

abbrev pub LooksOn : Talk → Talk → Type 0
LooksOn old new = (own : Option (List ℕ)) (bytes rest : List ℕ) (steps : List Step) (written : List ℕ) →
    IsReadOn old own bytes rest steps written → StandsNow new own bytes steps written

-- more bytes are awaited
abbrev pub ReadsOn : Talk → Talk → Type 0
ReadsOn old new = (own : Option (List ℕ)) (bytes rest : List ℕ) (steps : List Step) (written : List ℕ) →
    IsReadOn old own bytes rest steps written → ((waits : Bool) × on.IsAwaited LIMITS rest waits) → unread old.inbox ≡ [] → StandsNow new own bytes steps written

-- a fault stands in the bytes
abbrev pub Refuses : Talk → FrameFault → Talk → Type 0
Refuses old why new = (own : Option (List ℕ)) (bytes rest : List ℕ) (steps : List Step) (written : List ℕ) →
    IsReadOn old own bytes rest steps written → IsRefused LIMITS rest why × ¬ (rest ≡ []) → StandsNow new own bytes steps written

-- ---- a request at the front

-- it is whole, and may be answered
abbrev pub IsAnswerable : Talk → Type 0
IsAnswerable talk =
    (rest : List ℕ) × (f : Request) × HoldsWhole talk.inbox rest f × (talk.read ≤ LIMIT) × (talk.begins + length rest ≡ talk.read)
    × (talk.frames ≤ talk.begins)

-- the script of the request at the front is complete with these steps and this response, which is not written yet
pub record IsComplete (talk : Talk) (own : Option (List ℕ)) (f : Request) (response : Response) (bytes : List ℕ) (steps : List Step) (written : List ℕ) : Type 0 where
  pub rest : List ℕ
  pub before : List Step
  pub mine : List Step
  pub responses : List ℕ
  pub answered : Answered own talk.frames bytes rest before responses
  pub at_front : AtFront talk rest f
  pub answers : Answers own f mine response
  pub steps_are : steps ≡ before ++ mine
  pub written_is : written ≡ responses ++ continue_text talk.continued
  pub counts : Counts talk bytes rest
  pub short : talk.short ≡ met_want steps

-- what is to be done where the response is broken off
abbrev pub Keeps : Kept → Response → Type 0
Keeps kept.Nothing response = Undoes response []
Keeps (kept.Created session binding) response = (caps : List Cap) × (response ≡ created session caps binding)

-- then its response is begun to be written
abbrev pub Responds : Talk → List ℕ → Bool → Kept → Talk → Type 0
Responds old text last k new = (own : Option (List ℕ)) (f : Request) (response : Response) (bytes : List ℕ) (steps : List Step) (written : List ℕ) →
    IsComplete old own f response bytes steps written → Keeps k response → last ≡ is_last response → text ≡ bytes_of response (closes f.0) →
    StandsNow new own bytes steps written

-- what comes after a response
abbrev pub ThenAfter : Bool → Bool → Then → Type 0
ThenAfter true closes t = t ≡ after.End ends.HubSpent
ThenAfter false true t = t ≡ after.End ends.Asked
ThenAfter false false t = t ≡ after.Next

-- an answer has moved the script of the request at the front on by its step
pub record IsTurned (talk : Talk) (own : Option (List ℕ)) (bytes : List ℕ) (steps : List Step) (written : List ℕ) (turn : Turn) : Type 0 where
  pub rest : List ℕ
  pub f : Request
  pub aim : Aim
  pub before : List Step
  pub begun : List Step
  pub mine : List Step
  pub made : List Step
  pub responses : List ℕ
  pub answered : Answered own talk.frames bytes rest before responses
  pub at_front : AtFront talk rest f
  pub counts : Counts talk bytes rest
  pub begins : Begun own begun
  pub turns : RunTurns f (aim_steps aim) (λ more response. Script f (mine ++ more) response) (λ more. Lacks f (mine ++ more)) made talk.closes turn
  pub steps_are : steps ≡ before ++ (begun ++ (mine ++ made))
  pub settled : List Step
  pub settled_are : before ++ (begun ++ mine) ≡ settled ++ aim_steps aim
  pub short : talk.short ≡ met_want settled
  pub written_is : written ≡ responses ++ continue_text talk.continued

abbrev pub GoesOn : Talk → Turn → Talk → Type 0
GoesOn old turn new = (own : Option (List ℕ)) (bytes : List ℕ) (steps : List Step) (written : List ℕ) →
    IsTurned old own bytes steps written turn → StandsNow new own bytes steps written

-- the first turn of its script
abbrev pub FirstOf : Talk → Turn → Type 0
FirstOf talk turn = (rest : List ℕ) (f : Request) → HoldsWhole talk.inbox rest f → FirstTurn f turn talk.closes

-- ---- what is done after a fault

-- the fault ends it, once these steps are done
abbrev pub EndsUndone : ConnFault → List ℕ → ℕ → Talk → Type 0
EndsUndone fault session binding new = (own : Option (List ℕ)) (bytes : List ℕ) (steps : List Step) (written : List ℕ) →
    ((undone : List Step) → EndsCreated session binding undone → Finished own (Err fault) bytes (steps ++ undone) written) →
    StandsNow new own bytes steps written

-- a value that may be asked what it wants, with what is left to do after this fault
pub record SettlesUndoing (new : Talk) (fault : ConnFault) (u : Undoing) : Type 0 where
  pub fresh : is_fresh new ≡ true
  pub blames : blamed new ≡ result_cause (Err fault)
  pub holds : tokens new ≡ undo_tokens u
  pub leaves_so : leaves new ≡ undo_leaves u

abbrev pub HasUndone : ConnFault → Undoing → Talk → Type 0
HasUndone fault u new = (own : Option (List ℕ)) (bytes : List ℕ) (steps : List Step) (written : List ℕ) →
    WaitsRightly u steps → UndoLeads u (λ more. Finished own (Err fault) bytes (steps ++ more) written) → StandsNow new own bytes steps written

-- ---- bytes that were taken

-- so many more bytes of `100 Continue` were taken
abbrev pub ContinuesBy : Talk → ℕ → ℕ → Talk → Type 0
ContinuesBy old sent n new = (own : Option (List ℕ)) (w : Wanted) (bytes : List ℕ) (steps : List Step) (written : List ℕ) →
    Standing (states.Continuing sent) old own w bytes steps written →
    StandsNow new own bytes steps (written ++ take n (drop sent (continue_text true)))

-- behind a response that does not end the connection more bytes may stand
abbrev pub HoldsNext : Talk → Then → Type 0
HoldsNext talk after.Next = HoldsSome talk.inbox
HoldsNext talk (after.End end) = end_cause end ≡ of_nothing

-- all were taken
abbrev pub SentAll : Talk → Then → Talk → Type 0
SentAll old after.Next new = Looks old new
SentAll old (after.End end) new = HasEnded old end new

-- so many more bytes of a response were taken
abbrev pub SendsBy : Talk → Outgoing → ℕ → Talk → Type 0
SendsBy old out n new = (own : Option (List ℕ)) (w : Wanted) (bytes : List ℕ) (steps : List Step) (written : List ℕ) →
    Writes old out own w bytes steps written → StandsNow new own bytes steps (written ++ take n (drop out.sent out.bytes))

abbrev pub BreaksOff : Talk → Outgoing → Talk → Type 0
BreaksOff old out new = (own : Option (List ℕ)) (w : Wanted) (bytes : List ℕ) (steps : List Step) (written : List ℕ) →
    Writes old out own w bytes steps written → StandsNow new own bytes steps written

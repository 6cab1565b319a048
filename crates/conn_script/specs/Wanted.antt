-- Wants and answers as plain data, and what an answer adds to the bytes, the steps and the bytes written.
use Rattle.std.specs.Prelude.{◌≡◌, ℕ, ◌≤◌, Bool, true, false, List, [], ◌∷◌, ◌++◌, length, take, Option, None, Some, Result}
use Rattle.grid_types.specs.Permitted.{is_well_sized, is_start_failure}
use Rattle.grid_types.specs.Calls.{Call, Reply}
use Rattle.hub_core.specs.declared.answers.Enqueued.{Enqueued}
use Rattle.hub_core.specs.declared.answers.Enqueued.TheVariants as enqueued
use Rattle.hub_core.specs.declared.answers.Polled.{Polled}
use Rattle.hub_core.specs.declared.answers.Polled.TheVariants as polled
use Rattle.hub_core.specs.declared.answers.Withdrawing.{Withdrawing}
use Rattle.hub_core.specs.declared.answers.Withdrawing.TheVariants as withdrawing
use Rattle.hub_core.specs.declared.answers.Ending.{Ending}
use Rattle.hub_core.specs.declared.answers.Ending.TheVariants as ending
use Rattle.hub_core.specs.Replies.{registering_reply, beating_reply, draining_reply, removal_reply, enqueued_reply, polled_reply, withdrawing_reply, binding_reply, failing_reply, touching_reply, ending_reply, viewed_reply, KeepsRegistration, KeepsTicket, KeepsReservation}
use Rattle.grid_outside.specs.declared.exchange.Ask.{Ask}
use Rattle.grid_outside.specs.Exchanges.{ask_of}
use Rattle.node_client.specs.Held.{Token, of_ticket, of_reservation, of_closing, binding_tokens}
use Rattle.node_client.specs.Steps.{Step, Called, Spent, Exchanged, Paused}
use Rattle.conn_script.specs.declared.wants.HubCall.{HubCall}
use Rattle.conn_script.specs.declared.wants.HubCall.TheVariants as calls
use Rattle.conn_script.specs.declared.wants.HubAnswer.{HubAnswer}
use Rattle.conn_script.specs.declared.wants.HubAnswer.TheVariants as answers
use Rattle.conn_script.specs.declared.wants.Want.{Want}
use Rattle.conn_script.specs.declared.wants.Want.TheVariants as wants
use Rattle.conn_script.specs.declared.wants.Answer.{Answer}
use Rattle.conn_script.specs.declared.wants.Answer.TheVariants as told
use Rattle.conn_script.specs.declared.wants.Served.{Served}
use Rattle.conn_script.specs.declared.wants.ConnFault.{ConnFault}
use Rattle.conn_script.specs.Begin.{Begun}

-- ---- calls of the hub

-- a call as the definitions have it
abbrev pub call_of : HubCall → Call
call_of (calls.Register node) = Call.register node
call_of (calls.Beat node) = Call.beat node None
call_of (calls.BeatAs node name) = Call.beat node (Some name)
call_of (calls.Drain node) = Call.drain node
call_of (calls.Remove node) = Call.remove node
call_of (calls.Enqueue choices) = Call.enqueue choices
call_of (calls.Poll t) = Call.poll t
call_of (calls.Withdraw t) = Call.withdraw t
call_of (calls.Bind r session caps) = Call.bind r session caps
call_of (calls.Fail r why) = Call.fail r why
call_of (calls.Lookup session) = Call.lookup session
call_of (calls.Touch session binding) = Call.touch session binding
call_of (calls.End session binding) = Call.end session binding
call_of (calls.Freed c) = Call.freed c
call_of calls.Clear = Call.clear
call_of calls.View = Call.view

-- what a call brings beside tokens is as the hub asks it: a registration is well sized, and a start fails for a cause of its own
abbrev pub is_rightful : Call → Bool
is_rightful (Call.register node) = is_well_sized node
is_rightful (Call.fail r why) = is_start_failure why
is_rightful call = true

-- which call an answer belongs to
pub data Kind : Type 0 where
  register beat drain remove enqueue poll withdraw bind fail lookup touch end freed clear view other : Kind

abbrev pub kind_of : Call → Kind
kind_of (Call.register node) = Kind.register
kind_of (Call.beat node name) = Kind.beat
kind_of (Call.drain node) = Kind.drain
kind_of (Call.remove node) = Kind.remove
kind_of (Call.enqueue choices) = Kind.enqueue
kind_of (Call.poll t) = Kind.poll
kind_of (Call.withdraw t) = Kind.withdraw
kind_of Call.dispatch = Kind.other
kind_of (Call.bind r session caps) = Kind.bind
kind_of (Call.fail r why) = Kind.fail
kind_of (Call.lookup session) = Kind.lookup
kind_of (Call.touch session binding) = Kind.touch
kind_of (Call.end session binding) = Kind.end
kind_of (Call.freed c) = Kind.freed
kind_of Call.sweep = Kind.other
kind_of Call.expire = Kind.other
kind_of Call.clear = Kind.clear
kind_of Call.view = Kind.view

-- calls that need room in a journal or a map and hand no token in; none of them has an answer of its own for being out of memory
abbrev pub NeedsRoom : Kind → Type 0
NeedsRoom Kind.beat = Unit {0}
NeedsRoom Kind.drain = Unit {0}
NeedsRoom Kind.remove = Unit {0}
NeedsRoom Kind.touch = Unit {0}
NeedsRoom Kind.end = Unit {0}
NeedsRoom Kind.clear = Unit {0}
NeedsRoom k = ⊥

-- an answer to a call of that kind
abbrev pub FitsKind : HubAnswer → Kind → Type 0
FitsKind (answers.Register a) k = k ≡ Kind.register
FitsKind (answers.Beat a) k = k ≡ Kind.beat
FitsKind (answers.Drain a) k = k ≡ Kind.drain
FitsKind (answers.Remove a) k = k ≡ Kind.remove
FitsKind (answers.Enqueue a) k = k ≡ Kind.enqueue
FitsKind (answers.Poll a) k = k ≡ Kind.poll
FitsKind (answers.Withdraw a) k = k ≡ Kind.withdraw
FitsKind (answers.Bind a) k = k ≡ Kind.bind
FitsKind (answers.Fail a) k = k ≡ Kind.fail
FitsKind (answers.Lookup a) k = k ≡ Kind.lookup
FitsKind (answers.Touch a) k = k ≡ Kind.touch
FitsKind (answers.End a) k = k ≡ Kind.end
FitsKind answers.Freed k = k ≡ Kind.freed
FitsKind (answers.Clear a) k = k ≡ Kind.clear
FitsKind (answers.View a) k = k ≡ Kind.view
FitsKind (answers.Spent s) k = Unit {0}
FitsKind answers.NoRoom k = NeedsRoom k

-- out of memory, what was handed in comes back
abbrev pub Keeps : HubAnswer → Call → Type 0
Keeps (answers.Register a) (Call.register node) = KeepsRegistration node a
Keeps (answers.Poll a) (Call.poll t) = KeepsTicket t a
Keeps (answers.Bind a) (Call.bind r session caps) = KeepsReservation r session a
Keeps answer call = Unit {0}

-- the reply in an answer; none where it is out of memory
abbrev pub reply_of : HubAnswer → Option Reply
reply_of (answers.Register a) = registering_reply a
reply_of (answers.Beat a) = beating_reply a
reply_of (answers.Drain a) = draining_reply a
reply_of (answers.Remove a) = removal_reply a
reply_of (answers.Enqueue a) = enqueued_reply a
reply_of (answers.Poll a) = polled_reply a
reply_of (answers.Withdraw a) = withdrawing_reply a
reply_of (answers.Bind a) = binding_reply a
reply_of (answers.Fail a) = failing_reply a
reply_of (answers.Lookup found) = Some (Reply.found found)
reply_of (answers.Touch a) = touching_reply a
reply_of (answers.End a) = ending_reply a
reply_of answers.Freed = Some Reply.is_freed
reply_of (answers.Clear count) = Some (Reply.cleared count)
reply_of (answers.View v) = viewed_reply v
reply_of (answers.Spent s) = None
reply_of answers.NoRoom = None

abbrev pub is_spent : HubAnswer → Bool
is_spent (answers.Spent s) = true
is_spent answer = false

-- the step of a call that was answered so
abbrev pub call_step : HubAnswer → Call → ℕ → Step
call_step (answers.Spent s) call at = Spent call at
call_step answer call at = Called call at (reply_of answer)

-- ---- tokens

-- the tokens that a call hands in
abbrev pub call_tokens : Call → List Token
call_tokens (Call.poll t) = of_ticket t ∷ []
call_tokens (Call.withdraw t) = of_ticket t ∷ []
call_tokens (Call.bind r session caps) = of_reservation r ∷ []
call_tokens (Call.fail r why) = of_reservation r ∷ []
call_tokens (Call.freed c) = of_closing c ∷ []
call_tokens call = []

abbrev pub enqueued_tokens : Enqueued → List Token
enqueued_tokens (enqueued.Queued t) = of_ticket t ∷ []
enqueued_tokens answer = []

abbrev pub polled_tokens : Polled → List Token
polled_tokens (polled.NotYet t) = of_ticket t ∷ []
polled_tokens (polled.Yours t r) = of_reservation r ∷ of_ticket t ∷ []
polled_tokens (polled.Settled o) = []
polled_tokens (polled.Memory t) = of_ticket t ∷ []

abbrev pub withdrawing_tokens : Withdrawing → List Token
withdrawing_tokens withdrawing.Withdrawn = []
withdrawing_tokens (withdrawing.Settled o) = []
withdrawing_tokens (withdrawing.NotYet t) = of_ticket t ∷ []

abbrev pub ending_tokens : Ending → List Token
ending_tokens (ending.Ended c) = of_closing c ∷ []
ending_tokens ending.NoSession = []

-- the tokens that an answer brings
abbrev pub answer_tokens : HubAnswer → List Token
answer_tokens (answers.Enqueue a) = enqueued_tokens a
answer_tokens (answers.Poll a) = polled_tokens a
answer_tokens (answers.Withdraw a) = withdrawing_tokens a
answer_tokens (answers.Bind a) = binding_tokens a
answer_tokens (answers.End a) = ending_tokens a
answer_tokens answer = []

-- the tokens after an answer of the hub: those that it brings and those that were held; none where the hub is spent
abbrev pub tokens_after : HubAnswer → List Token → List Token
tokens_after (answers.Spent s) old = []
tokens_after answer old = answer_tokens answer ++ old

-- ---- wants

-- a want without where its slices lie, and with the call that is to be made
pub data Wanted : Type 0 where
  to_read : (most : ℕ) → Wanted
  to_write : (unsent : List ℕ) → Wanted
  to_begin : Wanted
  to_call : (call : Call) → Wanted
  to_ask : (address : List ℕ) (ask : Ask) → Wanted
  to_pause : (ms : ℕ) → Wanted
  over : (result : Result Served ConnFault) → Wanted

abbrev pub IsCall : Wanted → Type 0
IsCall (to_call call) = Unit {0}
IsCall w = ⊥

-- a call of the hub is handed out by itself
abbrev pub Shows : Want → Wanted → Type 0
Shows (wants.Read most) w = w ≡ to_read most
Shows (wants.Write unsent) w = w ≡ to_write unsent.now
Shows wants.Begin w = w ≡ to_begin
Shows wants.Hub w = IsCall w
Shows (wants.Node address request) w = w ≡ to_ask address (ask_of request)
Shows (wants.Pause ms) w = w ≡ to_pause ms
Shows (wants.Done result) w = w ≡ over result

abbrev pub IsOver : Want → Type 0
IsOver (wants.Done result) = Unit {0}
IsOver want = ⊥

-- a want of a script: a call, an exchange or a pause
abbrev pub IsScriptWant : Want → Type 0
IsScriptWant wants.Hub = Unit {0}
IsScriptWant (wants.Node address request) = Unit {0}
IsScriptWant (wants.Pause ms) = Unit {0}
IsScriptWant want = ⊥

-- what kind of answer may be fed; a pause at whose end a waiting request is polled again is a wait
pub data Awaited : Type 0 where
  piece : (most : ℕ) → Awaited
  count : (most : ℕ) → Awaited
  begun : Awaited
  answer_to : (kind : Kind) → Awaited
  came : Awaited
  pause_end : Awaited
  wait_end : Awaited
  nothing : Awaited

-- it is the end of a wait that is awaited
abbrev pub is_wait : Awaited → Bool
is_wait wait_end = true
is_wait due = false

-- An answer of that kind. Only where it waits may a client be told to have left.
abbrev pub IsAwaited : Answer → Awaited → Type 0
IsAwaited (told.Bytes bytes) (piece most) = length bytes.now ≤ most
IsAwaited told.EndOfInput (piece most) = Unit {0}
IsAwaited told.ReadFailed (piece most) = Unit {0}
IsAwaited (told.Wrote n) (count most) = n ≤ most
IsAwaited told.WriteFailed (count most) = Unit {0}
IsAwaited told.Begun begun = Unit {0}
IsAwaited (told.Hub answer) (answer_to kind) = FitsKind answer kind
IsAwaited (told.Node result) came = Unit {0}
IsAwaited told.Paused pause_end = Unit {0}
IsAwaited told.Paused wait_end = Unit {0}
IsAwaited told.Gone due = is_wait due ≡ true
IsAwaited answer due = ⊥

-- what may be done after a want: the answer to it may be fed, or the call of that kind taken
abbrev pub Readies : Want → Awaited → Option Kind → Type 0
Readies (wants.Read most) due held = due ≡ piece most
Readies (wants.Write unsent) due held = due ≡ count (length unsent.now)
Readies wants.Begin due held = due ≡ begun
Readies wants.Hub due held = (kind : Kind) × (held ≡ Some kind)
Readies (wants.Node address request) due held = due ≡ came
Readies (wants.Pause ms) due held = IsAwaited told.Paused due
Readies (wants.Done result) due held = Unit {0}

-- ---- what an answer to a want adds

-- out of memory in a call, what was handed in came back
abbrev pub Fits : Answer → Wanted → Type 0
Fits (told.Hub answer) (to_call call) = FitsKind answer (kind_of call) × Keeps answer call
Fits (told.Hub answer) w = ⊥
Fits (told.Node result) (to_ask address ask) = Unit {0}
Fits (told.Node result) w = ⊥
Fits answer w = Unit {0}

-- the bytes that came
abbrev pub bytes_in : Answer → List ℕ
bytes_in (told.Bytes bytes) = bytes.now
bytes_in answer = []

-- these steps may have been made
abbrev pub Made : Option (List ℕ) → Answer → Wanted → List Step → Type 0
Made own (told.Hub answer) (to_call call) steps = (at : ℕ) × (steps ≡ call_step answer call at ∷ [])
Made own (told.Node result) (to_ask address ask) steps = steps ≡ Exchanged address ask result ∷ []
Made own told.Paused (to_pause ms) steps = steps ≡ Paused ms ∷ []
Made own told.Begun to_begin steps = Begun own steps
Made own answer w steps = steps ≡ []

-- the bytes that were taken for writing
abbrev pub taken_of : Answer → Wanted → List ℕ
taken_of (told.Wrote n) (to_write unsent) = take n unsent
taken_of answer w = []

-- the tokens that an answer brings, and those that a want takes along
abbrev pub told_tokens : Answer → List Token
told_tokens (told.Hub answer) = answer_tokens answer
told_tokens answer = []

abbrev pub wanted_tokens : Wanted → List Token
wanted_tokens (to_call call) = call_tokens call
wanted_tokens w = []

abbrev pub finds_spent : Answer → Bool
finds_spent (told.Hub answer) = is_spent answer
finds_spent answer = false

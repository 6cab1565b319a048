-- How large the response is to a command that is passed on.
use Rattle.std.proofs.Common.{◌≡◌, ℕ, ◌+◌, ◌^◌, ◌<◌, ◌≤◌, ◌⊎◌, Bool, true, false, nat_le, List, [], ◌∷◌, ◌++◌, length, refl, sym, ap, ◌∙◌, subst, arith, length-append, inl, inr, codes}
use Rattle.std.specs.Prelude.{Option, None, Some, Ok, Err, IfOk, IsTrue, decimal, unwrap_or, if◌then◌else◌}
use Rattle.std.proofs.lemmas.Bool.{false≢true}
use Rattle.std.proofs.lemmas.Bool.Decides.{nat_tests}
use Rattle.std.proofs.lemmas.Fmt.{length-decimal-le}
use Rattle.http_frames.specs.Frames.{Request}
use Rattle.http_frames.specs.Writing.{length_line, has_no_body}
use Rattle.http_frames.specs.declared.replies.NodeReply.{NodeReply}
use Rattle.grid_types.specs.Calls.{Call}
use Rattle.grid_outside.specs.declared.exchange.Ask.{Ask}
use Rattle.grid_outside.specs.declared.exchange.Reply.{Reply}
use Rattle.grid_outside.specs.declared.exchange.Reply.TheVariants as reply
use Rattle.grid_outside.specs.declared.exchange.ExchangeFault.TheVariants.{Unreachable, Memory}
use Rattle.grid_outside.specs.Exchanges.{Came, bytes_in as value_bytes_in, is_within}
use Rattle.node_client.specs.Steps.{Step, Exchanged}
use Rattle.http.specs.StatusCode.{reason_phrase}
use Rattle.wd_bodies.specs.declared.code.ErrorCode.TheVariants as code
use Rattle.wd_bodies.specs.Bodies.{error_bytes}
use Rattle.conn_script.specs.declared.wants.HubAnswer.{HubAnswer}
use Rattle.conn_script.specs.declared.wants.HubAnswer.TheVariants as answers
use Rattle.conn_script.specs.declared.wants.Answer.{Answer}
use Rattle.conn_script.specs.declared.wants.Answer.TheVariants as told
use Rattle.conn_script.specs.declared.relaying.Relaying.{Relaying}
use Rattle.conn_script.specs.declared.relaying.Relaying.TheVariants as relaying
use Rattle.conn_script.specs.declared.turn.Run.{Run}
use Rattle.conn_script.specs.declared.turn.Run.TheVariants as run
use Rattle.conn_script.specs.declared.turn.Turn.{Turn}
use Rattle.conn_script.specs.declared.turn.Turn.TheVariants as turn
use Rattle.conn_script.specs.Responses.{Response, created, passed_on, told_line, head_text, response_text, json_text, spent_text, bytes_of}
use Rattle.conn_script.specs.Messages.{no_such_session, node_unreachable, node_not_http}
use Rattle.conn_script.specs.Relay.{relay_response, AfterTouch, asked, AfterFound, touched, not_touched, touch_spent, FindsNode, found_at, not_found, lookup_spent}
use Rattle.conn_script.specs.Relaying.{RelayWants, RelayFollows, RelayStops}
use Rattle.conn_script.specs.Wanted.{Wanted, to_call, to_ask, Fits, Made, call_step}
use Rattle.conn_script.specs.Running.{RunTurns}
use Rattle.conn_script.specs.Moving.{Moves}
use Rattle.conn_script.specs.Creating.{Aim, aim_steps}
use Rattle.hub_conn.specs.declared.talk.Talk.{Talk}
use Rattle.hub_conn.specs.declared.talk.State.{State}
use Rattle.hub_conn.specs.declared.talk.Outgoing.{Outgoing}
use Rattle.hub_conn.specs.declared.talk.State.TheVariants as states
use Rattle.hub_conn.specs.Talk.{Stands, relays, state_relays, run_relays, IsWithin, most_passed_on, writes_bytes, state_writes, HasLeft, FeedsFew, TurnWrites}
use Rattle.hub_conn.proofs.StateLemmas.{in_state_of}

-- ---- the bytes of a response

either : (b : Bool) → (b ≡ true) ⊎ (b ≡ false)
either true = inl refl
either false = inr refl

told_le : (name : List ℕ) (value : Option (List ℕ)) → length (told_line name value) ≤ length name + 4 + value_bytes_in value
told_le name None = omega arith
told_le name (Some value) =
    omega (
      arith,
      length-append ((name ++ codes ": ") ++ value) (codes "\r\n"),
      length-append (name ++ codes ": ") value,
      length-append name (codes ": "),
    )

length_le : (status size : ℕ) → size < 10 ^ 8 → length (if has_no_body status then [] else length_line size) ≤ 26
length_le status size small =
    elim (either (has_no_body status)) [
      | inl h ↦ rw h (omega arith)
      | inr h ↦ rw h (omega (
        arith,
        length-append (codes "Content-Length: " ++ decimal size) (codes "\r\n"),
        length-append (codes "Content-Length: ") (decimal size),
        length-decimal-le 8 size (omega arith) small (omega (arith, small)),
      ))
    ]

closing_le : (close : Bool) → length (if close then codes "Connection: close\r\n" else []) ≤ 19
closing_le true = omega arith
closing_le false = omega arith

head_le : (status : ℕ) (reason : List ℕ) (a b c : Option (List ℕ)) (size : ℕ) (close : Bool) → status ≤ 999 → size < 10 ^ 8
    → length (head_text status reason a b c size close) ≤ 256 + length reason + value_bytes_in a + value_bytes_in b + value_bytes_in c
head_le status reason a b c size close low small =
    let number = if has_no_body status then [] else length_line size in
    let closing = if close then codes "Connection: close\r\n" else [] in
    let t = codes "HTTP/1.1 " ++ decimal status in
    let u = t ++ codes " " in
    let v = u ++ reason in
    let w = v ++ codes "\r\n" in
    let x = w ++ told_line (codes "Content-Type") a in
    let y = x ++ told_line (codes "Content-Encoding") b in
    let z = y ++ told_line (codes "Cache-Control") c in
    omega (
      arith,
      length-append ((z ++ number) ++ closing) (codes "\r\n"),
      length-append (z ++ number) closing,
      length-append z number,
      length-append y (told_line (codes "Cache-Control") c),
      length-append x (told_line (codes "Content-Encoding") b),
      length-append w (told_line (codes "Content-Type") a),
      length-append v (codes "\r\n"),
      length-append u reason,
      length-append t (codes " "),
      length-append (codes "HTTP/1.1 ") (decimal status),
      length-decimal-le 3 status (omega arith) (omega (arith, low)) (omega (arith, low)),
      told_le (codes "Content-Type") a,
      told_le (codes "Content-Encoding") b,
      told_le (codes "Cache-Control") c,
      length_le status size small,
      closing_le close,
    )

body_le : (status : ℕ) (body : List ℕ) → length (if has_no_body status then [] else body) ≤ length body
body_le status body =
    elim (either (has_no_body status)) [
      | inl h ↦ rw h (omega arith)
      | inr h ↦ rw h (omega arith)
    ]

-- what a node replied within the limits
passed_le : (r : NodeReply) (close : Bool) → is_within (reply.Http r) ≡ true → length (bytes_of (passed_on r) close) ≤ most_passed_on
unfolding response_text
passed_le r close within =
    let low : r.status ≤ 999 = grind (arith, nat_tests) in
    let small : length r.body ≤ 16777216 = grind (arith, nat_tests) in
    let head : length r.reason + value_bytes_in r.content_type + value_bytes_in r.content_encoding + value_bytes_in r.cache_control ≤ 65536 =
    grind (arith, nat_tests) in
    omega (
      arith,
      length-append (head_text r.status r.reason r.content_type r.content_encoding r.cache_control (length r.body) close)
          (if has_no_body r.status then [] else r.body),
      head_le r.status r.reason r.content_type r.content_encoding r.cache_control (length r.body) close low (omega (arith, small)),
      body_le r.status r.body,
      small,
      head,
    )

-- ---- the responses to a command that is passed on

abbrev IsFew : Response → Type 0
IsFew response = (close : Bool) → length (bytes_of response close) ≤ most_passed_on

le_by_test : (a b : ℕ) → nat_le a b ≡ true → a ≤ b
le_by_test a b e = grind (arith, nat_tests)

-- a body of the hub
json_few : (status : ℕ) (body : List ℕ) (close : Bool) → status ≤ 999 → length (unwrap_or (reason_phrase status) []) ≤ 100 → length body ≤ 1000
    → length (json_text status body close) ≤ most_passed_on
unfolding response_text
json_few status body close low phrase small =
    omega (
      arith,
      length-append (head_text status (unwrap_or (reason_phrase status) []) (Some (codes "application/json; charset=utf-8")) None (Some (codes "no-cache")) (length body) close)
          (if has_no_body status then [] else body),
      head_le status (unwrap_or (reason_phrase status) []) (Some (codes "application/json; charset=utf-8")) None (Some (codes "no-cache")) (length body) close low (omega (arith, small)),
      body_le status body,
      phrase,
      small,
    )

no_session_few : IsFew no_such_session
unfolding error_bytes
no_session_few close =
    json_few 404 (error_bytes code.InvalidSessionId (codes "no such session")) close (omega arith) (le_by_test _ 100 refl) (le_by_test _ 1000 refl)

unreachable_few : IsFew node_unreachable
unfolding error_bytes
unreachable_few close =
    json_few 500 (error_bytes code.UnknownError (codes "node is unreachable")) close (omega arith) (le_by_test _ 100 refl) (le_by_test _ 1000 refl)

not_http_few : IsFew node_not_http
unfolding error_bytes
not_http_few close =
    json_few 500 (error_bytes code.UnknownError (codes "node's reply is not HTTP")) close (omega arith) (le_by_test _ 100 refl) (le_by_test _ 1000 refl)

spent_few : length spent_text ≤ most_passed_on
unfolding error_bytes
spent_few = json_few 500 (error_bytes code.UnknownError (codes "hub is spent")) true (omega arith) (le_by_test _ 100 refl) (le_by_test _ 1000 refl)

-- what came of each exchange is within the limits
abbrev CameWithin : Came → Type 0
CameWithin came = IfOk came (λ (reply : Reply). IsTrue (is_within reply))

abbrev StepWithin : Step → Type 0
StepWithin (Exchanged address ask came) = CameWithin came
StepWithin step = Unit {0}

abbrev StepsWithin : List Step → Type 0
StepsWithin [] = Unit {0}
StepsWithin (step ∷ steps) = StepWithin step × StepsWithin steps

exchange_few : (came : Came) (response : Response) → relay_response came ≡ Some response → CameWithin came → IsFew response
exchange_few (Ok (reply.Http r)) response e within close =
    let same : passed_on r ≡ response = cc in subst (λ (x : Response). length (bytes_of x close) ≤ most_passed_on) same (passed_le r close within)
exchange_few (Ok (reply.NotHttp bytes)) response e within close =
    let same : node_not_http ≡ response = cc in subst IsFew same not_http_few close
exchange_few (Err Unreachable) response e within close =
    let same : node_unreachable ≡ response = cc in subst IsFew same unreachable_few close
exchange_few (Err Memory) response e within close = cc

touched_few : (ask : Ask) (address : List ℕ) (steps : List Step) (response : Response) → AfterTouch ask address steps response → StepsWithin steps → IsFew response
touched_few ask address steps response (asked came response' e) within = exchange_few came response e within.0

found_few : (ask : Ask) (id address : List ℕ) (b : ℕ) (steps : List Step) (response : Response) → AfterFound ask id address b steps response →
    StepsWithin steps → IsFew response
found_few ask id address b steps response (touched at more response' x) within = touched_few ask address more response x within.1
found_few ask id address b steps response (not_touched at) within = no_session_few
found_few ask id address b steps response (touch_spent at) within = λ close. spent_few

finds_few : (ask : Ask) (id : List ℕ) (steps : List Step) (response : Response) → FindsNode ask id steps response → StepsWithin steps → IsFew response
finds_few ask id steps response (found_at at slot address b more response' x) within = found_few ask id address b more response x within.1
finds_few ask id steps response (not_found at) within = no_session_few
finds_few ask id steps response (lookup_spent at) within = λ close. spent_few

relay_few : (f : Request) (r : Relaying) (steps : List Step) (response : Response) → RelayFollows f r steps response → StepsWithin steps → IsFew response
relay_few f (relaying.Lookup id target) steps response x within = finds_few _ id steps response x within
relay_few f (relaying.LookingUp id target) steps response x within = finds_few _ id steps response x within
relay_few f (relaying.Touch id b address target) steps response x within = found_few _ id address b steps response x within
relay_few f (relaying.Touching id b address target) steps response x within = found_few _ id address b steps response x within
relay_few f (relaying.Exchange address target) steps response x within = touched_few _ address steps response x within

-- ---- the steps of an answer

call_within : (a : HubAnswer) (call : Call) (at : ℕ) → StepWithin (call_step a call at)
call_within (answers.Register a) call at = tt
call_within (answers.Beat a) call at = tt
call_within (answers.Drain a) call at = tt
call_within (answers.Remove a) call at = tt
call_within (answers.Enqueue a) call at = tt
call_within (answers.Poll a) call at = tt
call_within (answers.Bind a) call at = tt
call_within (answers.Fail a) call at = tt
call_within (answers.Lookup a) call at = tt
call_within (answers.Touch a) call at = tt
call_within (answers.End a) call at = tt
call_within answers.Freed call at = tt
call_within (answers.Clear a) call at = tt
call_within (answers.View a) call at = tt
call_within (answers.Withdraw a) call at = tt
call_within (answers.Spent s) call at = tt
call_within answers.NoRoom call at = tt

call_made : (own : Option (List ℕ)) (answer : Answer) (call : Call) (made : List Step) → Fits answer (to_call call) → Made own answer (to_call call) made →
    StepsWithin made
call_made own (told.Hub a) call made fits (at, e) = subst StepsWithin (sym e) (call_within a call at, tt)
call_made own (told.Node came) call made fits e = absurd fits
call_made own (told.Bytes p) call made fits e = subst StepsWithin (sym e) tt
call_made own told.EndOfInput call made fits e = subst StepsWithin (sym e) tt
call_made own told.ReadFailed call made fits e = subst StepsWithin (sym e) tt
call_made own (told.Wrote n) call made fits e = subst StepsWithin (sym e) tt
call_made own told.WriteFailed call made fits e = subst StepsWithin (sym e) tt
call_made own told.Begun call made fits e = subst StepsWithin (sym e) tt
call_made own told.Paused call made fits e = subst StepsWithin (sym e) tt
call_made own told.Gone call made fits e = subst StepsWithin (sym e) tt

ask_made : (own : Option (List ℕ)) (answer : Answer) (address : List ℕ) (ask : Ask) (made : List Step) → Fits answer (to_ask address ask) →
    Made own answer (to_ask address ask) made → IsWithin answer → StepsWithin made
ask_made own (told.Hub a) address ask made fits e within = absurd fits
ask_made own (told.Node came) address ask made fits e within = subst StepsWithin (sym e) (within, tt)
ask_made own (told.Bytes p) address ask made fits e within = subst StepsWithin (sym e) tt
ask_made own told.EndOfInput address ask made fits e within = subst StepsWithin (sym e) tt
ask_made own told.ReadFailed address ask made fits e within = subst StepsWithin (sym e) tt
ask_made own (told.Wrote n) address ask made fits e within = subst StepsWithin (sym e) tt
ask_made own told.WriteFailed address ask made fits e within = subst StepsWithin (sym e) tt
ask_made own told.Begun address ask made fits e within = subst StepsWithin (sym e) tt
ask_made own told.Paused address ask made fits e within = subst StepsWithin (sym e) tt
ask_made own told.Gone address ask made fits e within = subst StepsWithin (sym e) tt

relay_made : (own : Option (List ℕ)) (f : Request) (r : Relaying) (answer : Answer) (w : Wanted) (made : List Step) → RelayWants f r w → Fits answer w →
    Made own answer w made → IsWithin answer → StepsWithin made
relay_made own f (relaying.Lookup id target) answer w made e fits x within =
    call_made own answer (Call.lookup id) made (subst (Fits answer) e fits) (subst (λ (v : Wanted). Made own answer v made) e x)
relay_made own f (relaying.LookingUp id target) answer w made e fits x within =
    call_made own answer (Call.lookup id) made (subst (Fits answer) e fits) (subst (λ (v : Wanted). Made own answer v made) e x)
relay_made own f (relaying.Touch id b address target) answer w made e fits x within =
    call_made own answer (Call.touch id b) made (subst (Fits answer) e fits) (subst (λ (v : Wanted). Made own answer v made) e x)
relay_made own f (relaying.Touching id b address target) answer w made e fits x within =
    call_made own answer (Call.touch id b) made (subst (Fits answer) e fits) (subst (λ (v : Wanted). Made own answer v made) e x)
relay_made own f (relaying.Exchange address target) answer w made e fits x within =
    ask_made own answer address _ made (subst (Fits answer) e fits) (subst (λ (v : Wanted). Made own answer v made) e x) within

-- ---- what an answer leads to

-- no command is passed on
plain_few : (old new : Talk) (answer : Answer) (s : State) → old.state ≡ s → state_relays s ≡ false →
    (own : Option (List ℕ)) (w : Wanted) (bytes : List ℕ) (steps : List Step) (written : List ℕ) (made : List Step) →
    Stands old own w bytes steps written → Fits answer w → Made own answer w made → relays old ≡ true → IsWithin answer → writes_bytes new ≤ most_passed_on
unfolding relays
plain_few old new answer s e none own w bytes steps written made st fits x passes within =
    absurd (false≢true (sym (ap state_relays e ∙ none) ∙ passes))

none_few : (new : Talk) → writes_bytes new ≡ 0 → writes_bytes new ≤ most_passed_on
none_few new e = omega (arith, e)

text_few : (new : Talk) (text : List ℕ) → writes_bytes new ≡ length text → length text ≤ most_passed_on → writes_bytes new ≤ most_passed_on
text_few new text e few = omega (arith, e, few)

relay_turn_few : (new : Talk) (f : Request) (c : Relaying) (aim : Aim) (made : List Step) (close : Bool) (t : Turn) →
    RunTurns f (aim_steps aim) (λ more response. RelayFollows f c more response) (λ more. RelayStops f c more) made close t → TurnWrites t new →
    StepsWithin made → writes_bytes new ≤ most_passed_on
relay_turn_few new f c aim made close (turn.Go next short) x writes all = none_few new writes
relay_turn_few new f c aim made close (turn.Respond bytes) x writes all =
    text_few new bytes writes (omega (arith, ap length x.4, relay_few f c made x.0 x.1 all close))
relay_turn_few new f c aim made close (turn.RespondLast bytes short) x writes all =
    text_few new bytes writes (omega (arith, ap length x.1, spent_few))
relay_turn_few new f c aim made close (turn.Created bytes session binding) x writes all =
    text_few new bytes writes (omega (arith, ap length x.2, relay_few f c made (created session x.0 binding) x.1 all close))
relay_turn_few new f c aim made close (turn.Undo session binding) x writes all = none_few new writes
relay_turn_few new f c aim made close turn.Lacks x writes all = none_few new writes

turn_few : (old new : Talk) (r : Run) (answer : Answer) (t : Turn) → old.state ≡ states.Running r → Moves r answer old.closes t → TurnWrites t new →
    (own : Option (List ℕ)) (w : Wanted) (bytes : List ℕ) (steps : List Step) (written : List ℕ) (made : List Step) →
    Stands old own w bytes steps written → Fits answer w → Made own answer w made → relays old ≡ true → IsWithin answer → writes_bytes new ≤ most_passed_on
unfolding relays
turn_few old new r answer t e moves writes own w bytes steps written made st fits x passes within =
    by_run r e moves (sym (ap state_relays e) ∙ passes)
  where
    by_run : (r : Run) → old.state ≡ states.Running r → Moves r answer old.closes t → run_relays r ≡ true → writes_bytes new ≤ most_passed_on
    by_run (run.Calling c) e moves is = absurd (false≢true is)
    by_run (run.Deleting d) e moves is = absurd (false≢true is)
    by_run (run.Creating c) e moves is = absurd (false≢true is)
    by_run (run.Relaying c) e moves is =
        let y = in_state_of old (states.Running (run.Relaying c)) own w bytes steps written e st in
        let f = y.in_state.0 in
        let wants = y.in_state.2.wants in
        relay_turn_few new f c y.aim made old.closes t (moves.leads own f y.aim w made wants fits x) writes
        (relay_made own f c answer w made wants.1 fits x within)

-- a response that is written stays the same
nothing_left : (old : Talk) (s : State) (n : ℕ) → old.state ≡ s → ((n : ℕ) → ¬ (HasLeft s n)) → ¬ (HasLeft old.state n)
nothing_left old s n e none x = none n (subst (λ (z : State). HasLeft z n) e x)

pub few_plain : (old new : Talk) (answer : Answer) (s : State) → old.state ≡ s → state_relays s ≡ false →
    ((n : ℕ) → answer ≡ told.Wrote n → HasLeft old.state n → writes_bytes new ≡ writes_bytes old) → FeedsFew old answer new
few_plain old new answer s e none stays = record { passes = plain_few old new answer s e none; stays = stays }

pub few_turn : (old new : Talk) (r : Run) (answer : Answer) (t : Turn) → old.state ≡ states.Running r → Moves r answer old.closes t → TurnWrites t new →
    FeedsFew old answer new
few_turn old new r answer t e moves writes = record {
  passes = turn_few old new r answer t e moves writes;
  stays = λ n is left. absurd (nothing_left old (states.Running r) n e (λ m x. x) left);
}

pub writes_in : (talk : Talk) (s : State) → talk.state ≡ s → writes_bytes talk ≡ state_writes s
unfolding writes_bytes
writes_in talk s e = ap state_writes e

-- the same of what is sent
pub sent_stays : (old new : Talk) (out : Outgoing) (m : ℕ) → old.state ≡ states.Writing out →
    (out.sent + m < length out.bytes → writes_bytes new ≡ length out.bytes) →
    (n : ℕ) → told.Wrote m ≡ told.Wrote n → HasLeft old.state n → writes_bytes new ≡ writes_bytes old
sent_stays old new out m e stays n is left =
    let same : m ≡ n = cc in
    stays (subst (λ (k : ℕ). out.sent + k < length out.bytes) (sym same) (subst (λ (z : State). HasLeft z n) e left))
    ∙ sym (writes_in old (states.Writing out) e)

-- no response was written
pub none_stays : (old new : Talk) (s : State) (answer : Answer) → old.state ≡ s → ((n : ℕ) → ¬ (HasLeft s n)) →
    (n : ℕ) → answer ≡ told.Wrote n → HasLeft old.state n → writes_bytes new ≡ writes_bytes old
none_stays old new s answer e none n is left = absurd (nothing_left old s n e none left)

-- no count was fed
pub other_stays : (old new : Talk) (answer : Answer) → ((n : ℕ) → ¬ (answer ≡ told.Wrote n)) →
    (n : ℕ) → answer ≡ told.Wrote n → HasLeft old.state n → writes_bytes new ≡ writes_bytes old
other_stays old new answer other n is left = absurd (other n is)

-- while a command is passed on no response is written
pub relays_write_none : (talk : Talk) → relays talk ≡ true → writes_bytes talk ≡ 0
unfolding relays writes_bytes
relays_write_none talk is = by_state talk.state is
  where
    by_state : (s : State) → state_relays s ≡ true → state_writes s ≡ 0
    by_state states.Reading e = refl
    by_state (states.Continuing sent) e = refl
    by_state states.Beginning e = refl
    by_state (states.Running r) e = refl
    by_state (states.Writing out) e = absurd (false≢true e)
    by_state (states.Undoing fault u) e = refl
    by_state (states.Done result) e = refl

-- a script goes on
pub go_writes : (new : Talk) (t : Turn) (r : Run) (short : Bool) → t ≡ turn.Go r short → new.state ≡ states.Running r → TurnWrites t new
go_writes new t r short e is = subst (λ (z : Turn). TurnWrites z new) (sym e) (writes_in new (states.Running r) is)

-- From what each answer leads to in the script of its route to what it does to the run.
use Rattle.std.proofs.Common.{◌≡◌, ℕ, ◌+◌, ◌<◌, Bool, true, false, List, [], ◌∷◌, ◌++◌, refl, sym, ◌∙◌, ap, subst, append-nil, append_assoc, inr, arith}
use Rattle.std.specs.Prelude.{Option}
use Rattle.http_frames.specs.Frames.{Request}
use Rattle.grid_types.specs.Calls.{Call}
use Rattle.grid_types.specs.Tokens.{Ticket, Reservation, Closing}
use Rattle.grid_outside.specs.Exchanges.{Came}
use Rattle.node_client.specs.declared.carry.Carry.{Carry}
use Rattle.node_client.specs.declared.wants.CarryAnswer.TheVariants as carried
use Rattle.node_client.specs.declared.path.SessionPath.{SessionPath}
use Rattle.node_client.specs.Asks.{with_path}
use Rattle.node_client.specs.Paths.{path_text}
use Rattle.node_client.specs.Held.{Token}
use Rattle.node_client.specs.Places as places
use Rattle.node_client.specs.Places.{wanted_at}
use Rattle.node_client.specs.Start.{Start}
use Rattle.node_client.specs.Steps.{Step, Exchanged, Paused, gives_up}
use Rattle.conn_script.specs.declared.calling.Asked.{Asked}
use Rattle.conn_script.specs.declared.calling.Calling.TheVariants as calling
use Rattle.conn_script.specs.declared.deleting.Deleting.TheVariants as deleting
use Rattle.conn_script.specs.declared.deleting.Quitted.{Quitted}
use Rattle.conn_script.specs.declared.relaying.Relaying.TheVariants as relaying
use Rattle.conn_script.specs.declared.creating.Creating.TheVariants as creating
use Rattle.conn_script.specs.declared.turn.Run.{Run}
use Rattle.conn_script.specs.declared.turn.Run.TheVariants as run
use Rattle.conn_script.specs.declared.turn.Turn.{Turn}
use Rattle.conn_script.specs.declared.turn.Turn.TheVariants as turn
use Rattle.conn_script.specs.declared.wants.Answer.TheVariants as told
use Rattle.conn_script.specs.declared.wants.HubAnswer.{HubAnswer}
use Rattle.conn_script.specs.declared.wants.HubAnswer.TheVariants as answers
use Rattle.conn_script.specs.Responses.{Response, hub_spent}
use Rattle.conn_script.specs.OneCall.{OneCall, CallLacks}
use Rattle.conn_script.specs.DeleteSession.{AfterQuit, AfterEnd, AfterLookup, AsksWhere, QuitLacks, EndLacks, DeleteLacks}
use Rattle.conn_script.specs.Relay.{relayed, AfterTouch, AfterFound, FindsNode, ExchangeLacks, TouchLacks, RelayLacks}
use Rattle.conn_script.specs.NewSession.{Rounds, Asks, AskLacks, SpentStart, poll_pause}
use Rattle.conn_script.specs.Wanted.{Wanted, to_read, to_write, to_begin, to_call, to_ask, to_pause, over, Kind, kind_of, FitsKind, Keeps, Fits, Made, call_step, is_spent, answer_tokens, tokens_after}
use Rattle.conn_script.specs.Turns.{Turns, Completes, Stops}
use Rattle.conn_script.specs.Calling.{respond_of, CallTurns, GoesNowhere}
use Rattle.conn_script.specs.Deleting.{DeletesOn, LookupTurns, EndTurns, QuitTurns, FreeTurns, kept_response, FreesLacking}
use Rattle.conn_script.specs.Relaying.{RelaysOn, FindTurns, TouchTurns, ExchangeTurns}
use Rattle.conn_script.specs.Creating.{Aim, no_start, starts, aim_steps, CreatesOn, EnqueueTurns, PollTurns, PauseTurns, StartTurns, StartMoves, StartLeads, GoesOnStarting, start_ends, start_finds_spent, AfterPause, gone, NeverStops, want_of}
use Rattle.conn_script.specs.Running.{RunWants, RunFollows, RunStops, RunTurns, RunsOn, run_tokens}
use Rattle.conn_script.specs.Moving.{IsReady, Moves, Leaves}
use Rattle.conn_script.specs.declared.undoing.Undoing.TheVariants as undoing
use Rattle.conn_script.specs.Work.{rounds_work, turn_work, RunsLess, IsOverTurn, IsBelow, QueuesLess, PollsLess, StartsLess, StartAnswersLess}
use Rattle.conn_script.proofs.ElseLemmas.{Else, spent, no_room}
use Rattle.conn_script.proofs.WorkLemmas.{none_below, starts_less, pause_less}

-- ---- tokens

pub after_kept : (a : HubAnswer) (old : List Token) → is_spent a ≡ false → tokens_after a old ≡ answer_tokens a ++ old
after_kept (answers.Register a) old e = refl
after_kept (answers.Beat a) old e = refl
after_kept (answers.Drain a) old e = refl
after_kept (answers.Remove a) old e = refl
after_kept (answers.Enqueue a) old e = refl
after_kept (answers.Poll a) old e = refl
after_kept (answers.Bind a) old e = refl
after_kept (answers.Fail a) old e = refl
after_kept (answers.Lookup a) old e = refl
after_kept (answers.Touch a) old e = refl
after_kept (answers.End a) old e = refl
after_kept (answers.Clear a) old e = refl
after_kept (answers.View a) old e = refl
after_kept (answers.Withdraw a) old e = refl
after_kept answers.Freed old e = refl
after_kept (answers.Spent s) old e = absurd (cc)
after_kept answers.NoRoom old e = refl

pub after_spent : (a : HubAnswer) (old : List Token) → is_spent a ≡ true → tokens_after a old ≡ []
after_spent (answers.Register a) old e = absurd (cc)
after_spent (answers.Beat a) old e = absurd (cc)
after_spent (answers.Drain a) old e = absurd (cc)
after_spent (answers.Remove a) old e = absurd (cc)
after_spent (answers.Enqueue a) old e = absurd (cc)
after_spent (answers.Poll a) old e = absurd (cc)
after_spent (answers.Bind a) old e = absurd (cc)
after_spent (answers.Fail a) old e = absurd (cc)
after_spent (answers.Lookup a) old e = absurd (cc)
after_spent (answers.Touch a) old e = absurd (cc)
after_spent (answers.End a) old e = absurd (cc)
after_spent (answers.Clear a) old e = absurd (cc)
after_spent (answers.View a) old e = absurd (cc)
after_spent (answers.Withdraw a) old e = absurd (cc)
after_spent answers.Freed old e = absurd (cc)
after_spent (answers.Spent s) old e = refl
after_spent answers.NoRoom old e = absurd (cc)

-- an answer that is none of the call's own brings no token
else_after : (k : Kind) (a : HubAnswer) → Else k a → tokens_after a [] ≡ []
else_after k _ (spent s) = refl
else_after k _ (no_room r) = refl

pub else_ready : (k : Kind) (a : HubAnswer) (t : Turn) → Else k a → IsReady t [] → IsReady t (tokens_after a [])
else_ready k a t x ready = subst (λ (ts : List Token). IsReady t ts) (sym (else_after k a x)) ready

-- ---- any run

of_want : (own : Option (List ℕ)) (f : Request) (old : Run) (a : HubAnswer) (close : Bool) (t : Turn) (aim : Aim) (w : Wanted) (made : List Step) →
    ((call : Call) (at : ℕ) → RunWants f old aim (to_call call) → FitsKind a (kind_of call) → Keeps a call →
    RunTurns f (aim_steps aim) (λ more response. RunFollows f old aim (to_call call) more response) (λ more. RunStops f old (to_call call) more)
    (call_step a call at ∷ []) close t) →
    RunWants f old aim w → Fits (told.Hub a) w → Made own (told.Hub a) w made →
    RunTurns f (aim_steps aim) (λ more response. RunFollows f old aim w more response) (λ more. RunStops f old w more) made close t
of_want own f old a close t aim (to_call call) made leads wants fits made_is =
    subst (λ (steps : List Step). RunTurns f (aim_steps aim) (λ more response. RunFollows f old aim (to_call call) more response) (λ more. RunStops f old (to_call call) more) steps close t)
    (sym made_is.1) (leads call made_is.0 wants fits.0 fits.1)
of_want own f old a close t aim (to_read n) made leads wants fits made_is = absurd fits
of_want own f old a close t aim (to_write b) made leads wants fits made_is = absurd fits
of_want own f old a close t aim to_begin made leads wants fits made_is = absurd fits
of_want own f old a close t aim (to_ask address ask) made leads wants fits made_is = absurd fits
of_want own f old a close t aim (to_pause ms) made leads wants fits made_is = absurd fits
of_want own f old a close t aim (over r) made leads wants fits made_is = absurd fits

-- an answer of the hub
moves : (old : Run) (a : HubAnswer) (close : Bool) (t : Turn) → IsReady t (tokens_after a (run_tokens old)) → RunsLess old (told.Hub a) t →
    ((f : Request) (aim : Aim) (call : Call) (at : ℕ) → RunWants f old aim (to_call call) → FitsKind a (kind_of call) → Keeps a call →
    RunTurns f (aim_steps aim) (λ more response. RunFollows f old aim (to_call call) more response) (λ more. RunStops f old (to_call call) more)
    (call_step a call at ∷ []) close t) →
    Moves old (told.Hub a) close t
moves old a close t ready less leads = record {
  fresh = ready.fresh;
  keeps = λ e. ready.holds ∙ after_kept a (run_tokens old) e;
  void = λ e. ready.holds ∙ after_spent a (run_tokens old) e;
  leads = λ own f aim w made wants fits made_is.
      of_want own f old a close t aim w made (λ call at. leads f aim call at) wants fits made_is;
  less = less;
}

-- what came of an exchange
moves_by_exchange : (old : Run) (came : Came) (close : Bool) (t : Turn) → IsReady t (run_tokens old) → RunsLess old (told.Node came) t →
    ((own : Option (List ℕ)) (f : Request) (aim : Aim) (w : Wanted) (made : List Step) → RunWants f old aim w → Fits (told.Node came) w →
    Made own (told.Node came) w made →
    RunTurns f (aim_steps aim) (λ more response. RunFollows f old aim w more response) (λ more. RunStops f old w more) made close t) →
    Moves old (told.Node came) close t
moves_by_exchange old came close t ready less leads = record {
  fresh = ready.fresh;
  keeps = λ e. ready.holds;
  void = λ e. absurd (no e);
  leads = leads;
  less = less;
}
  where
    no : false ≡ true → ⊥
    no e = cc

-- ---- the scripts without a start

run_turns : (f : Request) (G : Run → Completes → Stops → Type 0) (C : Completes) (S : Stops) (made : List Step) (close : Bool) (t : Turn) →
    ((r : Run) (D : Completes) (U : Stops) → G r D U → RunsOn f r D U) → Turns G C S made close t → RunTurns f [] C S made close t
run_turns f G C S made close (turn.Go next short) on x =
    let y = on next (λ more response. C (made ++ more) response) (λ more. S (made ++ more)) x.0 in
    (y.0, y.1, y.2, (made, sym (ap (λ (z : List Step). made ++ z) y.3 ∙ append-nil made), x.1), y.4, y.5)
run_turns f G C S made close (turn.Respond bytes) on x = x
run_turns f G C S made close (turn.Created bytes session binding) on x = x
run_turns f G C S made close (turn.Undo session binding) on x = x
run_turns f G C S made close (turn.RespondLast bytes short) on x = x
run_turns f G C S made close turn.Lacks on x = x

nowhere : (f : Request) (r : Run) (D : Completes) (U : Stops) → GoesNowhere r D U → RunsOn f r D U
nowhere f r D U x = absurd x

deletes_on : (f : Request) (r : Run) (D : Completes) (U : Stops) → DeletesOn r D U → RunsOn f r D U
deletes_on f (run.Deleting d) D U x = (no_start, x.0, (refl, x.1), refl, x.2, x.3)
deletes_on f (run.Calling c) D U x = absurd x
deletes_on f (run.Relaying c) D U x = absurd x
deletes_on f (run.Creating c) D U x = absurd x

relays_on : (f : Request) (r : Run) (D : Completes) (U : Stops) → RelaysOn f r D U → RunsOn f r D U
relays_on f (run.Relaying d) D U x = (no_start, x.0, (refl, x.1), refl, x.2, x.3)
relays_on f (run.Calling c) D U x = absurd x
relays_on f (run.Deleting c) D U x = absurd x
relays_on f (run.Creating c) D U x = absurd x

creates_on : (f : Request) (r : Run) (D : Completes) (U : Stops) → CreatesOn r D U → RunsOn f r D U
creates_on f (run.Creating d) D U x = x
creates_on f (run.Calling c) D U x = absurd x
creates_on f (run.Deleting c) D U x = absurd x
creates_on f (run.Relaying c) D U x = absurd x

-- no start is under way
no_aim : (f : Request) (aim : Aim) (C : Completes) (S : Stops) (made : List Step) (close : Bool) (t : Turn) → aim ≡ no_start →
    RunTurns f [] C S made close t → RunTurns f (aim_steps aim) C S made close t
no_aim f aim C S made close t e x = subst (λ (b : Aim). RunTurns f (aim_steps b) C S made close t) (sym e) x

same_call : (a b : Call) → to_call a ≡ to_call b → a ≡ b
same_call a b e = cc

pub call_moves : (asked : Asked) (a : HubAnswer) (close : Bool) (t : Turn) → CallTurns asked a t close → IsReady t (tokens_after a []) → IsOverTurn t →
    Moves (run.Calling (calling.Asked asked)) (told.Hub a) close t
call_moves asked a close t turns ready is_over =
    moves (run.Calling (calling.Asked asked)) a close t ready (λ before after h. none_below t 1 is_over (omega arith) after) (λ f aim call at wants fits keeps.
    let e : wants.1.0 ≡ call = same_call wants.1.0 call (sym wants.1.1) in
    no_aim f aim (OneCall call (respond_of asked)) (CallLacks call) (call_step a call at ∷ []) close t wants.0
    (run_turns f GoesNowhere (OneCall call (respond_of asked)) (CallLacks call) (call_step a call at ∷ []) close t (λ r D U. nowhere f r D U)
    (turns call at (ap kind_of (sym e) ∙ wants.1.2) (ap gives_up (sym e) ∙ wants.1.3))))

pub lookup_moves : (id : List ℕ) (a : HubAnswer) (close : Bool) (t : Turn) → LookupTurns id a t close → IsReady t (tokens_after a []) → IsBelow 4 t →
    Moves (run.Deleting (deleting.LookingUp id)) (told.Hub a) close t
lookup_moves id a close t turns ready less =
    moves (run.Deleting (deleting.LookingUp id)) a close t ready (λ before after h. less after) (λ f aim call at wants fits keeps.
    no_aim f aim (AsksWhere id) (DeleteLacks id) (call_step a call at ∷ []) close t wants.0
    (subst (λ (k : Call). RunTurns f [] (AsksWhere id) (DeleteLacks id) (call_step a k at ∷ []) close t) (sym (same_call call (Call.lookup id) wants.1))
    (run_turns f DeletesOn (AsksWhere id) (DeleteLacks id) (call_step a (Call.lookup id) at ∷ []) close t (λ r D U. deletes_on f r D U) (turns at))))

pub end_moves : (id : List ℕ) (b : ℕ) (a : HubAnswer) (close : Bool) (t : Turn) → EndTurns id b a t close → IsReady t (tokens_after a []) → IsBelow 3 t →
    Moves (run.Deleting (deleting.Ending id b)) (told.Hub a) close t
end_moves id b a close t turns ready less =
    moves (run.Deleting (deleting.Ending id b)) a close t ready (λ before after h. less after) (λ f aim call at wants fits keeps.
    no_aim f aim (AfterLookup id b) (EndLacks id b) (call_step a call at ∷ []) close t wants.0
    (subst (λ (k : Call). RunTurns f [] (AfterLookup id b) (EndLacks id b) (call_step a k at ∷ []) close t) (sym (same_call call (Call.end id b) wants.1))
    (run_turns f DeletesOn (AfterLookup id b) (EndLacks id b) (call_step a (Call.end id b) at ∷ []) close t (λ r D U. deletes_on f r D U) (turns at))))

pub free_moves : (q : Quitted) (a : HubAnswer) (close : Bool) (t : Turn) → FreeTurns q a t close → IsReady t (tokens_after a []) → IsOverTurn t →
    Moves (run.Deleting (deleting.Freeing q)) (told.Hub a) close t
free_moves q a close t turns ready is_over =
    moves (run.Deleting (deleting.Freeing q)) a close t ready (λ before after h. none_below t 1 is_over (omega arith) after) (λ f aim call at wants fits keeps.
    let c = wants.1.0 in
    subst (λ (k : Call). RunTurns f (aim_steps aim) (λ more response. RunFollows f (run.Deleting (deleting.Freeing q)) aim (to_call k) more response)
    (λ more. RunStops f (run.Deleting (deleting.Freeing q)) (to_call k) more) (call_step a k at ∷ []) close t)
    (sym (same_call call (Call.freed c) wants.1.1))
    (no_aim f aim (AfterQuit c (kept_response q)) (FreesLacking q c) (call_step a (Call.freed c) at ∷ []) close t wants.0
    (run_turns f DeletesOn (AfterQuit c (kept_response q)) (FreesLacking q c) (call_step a (Call.freed c) at ∷ []) close t (λ r D U. deletes_on f r D U)
    (turns c at))))

pub quit_moves : (c : Closing) (path : SessionPath) (came : Came) (close : Bool) (t : Turn) → QuitTurns c came t → IsReady t (run_tokens (run.Deleting (deleting.Quit c path))) → IsBelow 2 t →
    Moves (run.Deleting (deleting.Quit c path)) (told.Node came) close t
quit_moves c path came close t turns ready less =
    moves_by_exchange (run.Deleting (deleting.Quit c path)) came close t ready (λ before after h. less after) (λ own f aim w made wants fits made_is.
    let is : made ≡ Exchanged c.address (with_path (path_text path)) came ∷ [] = subst (λ (z : Wanted). Made own (told.Node came) z made) wants.1 made_is in
    no_aim f aim (AfterEnd (path_text path) c) (QuitLacks (path_text path) c) made close t wants.0
    (subst (λ (steps : List Step). RunTurns f [] (AfterEnd (path_text path) c) (QuitLacks (path_text path) c) steps close t) (sym is)
    (run_turns f DeletesOn (AfterEnd (path_text path) c) (QuitLacks (path_text path) c) (Exchanged c.address (with_path (path_text path)) came ∷ []) close t
    (λ r D U. deletes_on f r D U) (turns close (path_text path)))))

pub find_moves : (id target : List ℕ) (a : HubAnswer) (close : Bool) (t : Turn) → FindTurns id target a t close → IsReady t (tokens_after a []) → IsBelow 3 t →
    Moves (run.Relaying (relaying.LookingUp id target)) (told.Hub a) close t
find_moves id target a close t turns ready less =
    moves (run.Relaying (relaying.LookingUp id target)) a close t ready (λ before after h. less after) (λ f aim call at wants fits keeps.
    no_aim f aim (FindsNode (relayed f target) id) (RelayLacks (relayed f target) id) (call_step a call at ∷ []) close t wants.0
    (subst (λ (k : Call). RunTurns f [] (FindsNode (relayed f target) id) (RelayLacks (relayed f target) id) (call_step a k at ∷ []) close t) (sym (same_call call (Call.lookup id) wants.1))
    (run_turns f (RelaysOn f) (FindsNode (relayed f target) id) (RelayLacks (relayed f target) id) (call_step a (Call.lookup id) at ∷ []) close t (λ r D U. relays_on f r D U) (turns f at))))

pub touch_moves : (id : List ℕ) (b : ℕ) (address target : List ℕ) (a : HubAnswer) (close : Bool) (t : Turn) → TouchTurns id b address target a t close → IsReady t (tokens_after a []) → IsBelow 2 t →
    Moves (run.Relaying (relaying.Touching id b address target)) (told.Hub a) close t
touch_moves id b address target a close t turns ready less =
    moves (run.Relaying (relaying.Touching id b address target)) a close t ready (λ before after h. less after) (λ f aim call at wants fits keeps.
    no_aim f aim (AfterFound (relayed f target) id address b) (TouchLacks (relayed f target) id address b) (call_step a call at ∷ []) close t wants.0
    (subst (λ (k : Call). RunTurns f [] (AfterFound (relayed f target) id address b) (TouchLacks (relayed f target) id address b) (call_step a k at ∷ []) close t)
    (sym (same_call call (Call.touch id b) wants.1))
    (run_turns f (RelaysOn f) (AfterFound (relayed f target) id address b) (TouchLacks (relayed f target) id address b) (call_step a (Call.touch id b) at ∷ []) close t
    (λ r D U. relays_on f r D U) (turns f at))))

pub relay_moves : (address target : List ℕ) (came : Came) (close : Bool) (t : Turn) → ExchangeTurns came t close → IsReady t [] → IsOverTurn t →
    Moves (run.Relaying (relaying.Exchange address target)) (told.Node came) close t
relay_moves address target came close t turns ready is_over =
    moves_by_exchange (run.Relaying (relaying.Exchange address target)) came close t ready (λ before after h. none_below t 1 is_over (omega arith) after) (λ own f aim w made wants fits made_is.
    let is : made ≡ Exchanged address (relayed f target) came ∷ [] = subst (λ (z : Wanted). Made own (told.Node came) z made) wants.1 made_is in
    no_aim f aim (AfterTouch (relayed f target) address) (ExchangeLacks (relayed f target) address) made close t wants.0
    (subst (λ (steps : List Step). RunTurns f [] (AfterTouch (relayed f target) address) (ExchangeLacks (relayed f target) address) steps close t) (sym is)
    (run_turns f (RelaysOn f) (AfterTouch (relayed f target) address) (ExchangeLacks (relayed f target) address) (Exchanged address (relayed f target) came ∷ []) close t
    (λ r D U. relays_on f r D U) (turns f (relayed f target) address))))

-- ---- a New Session

pub enqueue_moves : (a : HubAnswer) (close : Bool) (t : Turn) → EnqueueTurns a t close → IsReady t (tokens_after a []) → QueuesLess a t →
    Moves (run.Creating creating.Enqueuing) (told.Hub a) close t
enqueue_moves a close t turns ready less =
    moves (run.Creating creating.Enqueuing) a close t ready less (λ f aim call at wants fits keeps.
    let choices = wants.1 in
    subst (λ (k : Call). RunTurns f (aim_steps aim) (λ more response. RunFollows f (run.Creating creating.Enqueuing) aim (to_call k) more response)
    (λ more. RunStops f (run.Creating creating.Enqueuing) (to_call k) more) (call_step a k at ∷ []) close t)
    (sym (same_call call (Call.enqueue choices) wants.2))
    (no_aim f aim (Asks choices) (AskLacks choices) (call_step a (Call.enqueue choices) at ∷ []) close t wants.0
    (run_turns f CreatesOn (Asks choices) (AskLacks choices) (call_step a (Call.enqueue choices) at ∷ []) close t (λ r D U. creates_on f r D U) (turns choices at))))

pub poll_moves : (n : ℕ) (a : HubAnswer) (close : Bool) (t : Turn) → PollTurns n a t close → IsReady t (tokens_after a []) → PollsLess a t →
    Moves (run.Creating (creating.Polling n)) (told.Hub a) close t
poll_moves n a close t turns ready less =
    moves (run.Creating (creating.Polling n)) a close t ready less (λ f aim call at wants fits keeps.
    let u = wants.1 in
    let e = same_call call (Call.poll u) wants.2 in
    subst (λ (k : Call). RunTurns f (aim_steps aim) (λ more response. RunFollows f (run.Creating (creating.Polling n)) aim (to_call k) more response)
    (λ more. RunStops f (run.Creating (creating.Polling n)) (to_call k) more) (call_step a k at ∷ []) close t)
    (sym e)
    (no_aim f aim (Rounds u) NeverStops (call_step a (Call.poll u) at ∷ []) close t wants.0
    (run_turns f CreatesOn (Rounds u) NeverStops (call_step a (Call.poll u) at ∷ []) close t (λ r D U. creates_on f r D U)
    (turns u at wants.3 (subst (λ (k : Call). Keeps a k) e keeps)))))

pub pause_moves : (u : Ticket) (close : Bool) (t : Turn) → PauseTurns u t → IsReady t (run_tokens (run.Creating (creating.Pausing u))) → t ≡ turn.Go (run.Creating (creating.Poll u)) false →
    Moves (run.Creating (creating.Pausing u)) told.Paused close t
pause_moves u close t turns ready next = record {
  fresh = ready.fresh;
  keeps = λ e. ready.holds;
  void = λ e. absurd (no e);
  leads = λ own f aim w made wants fits made_is.
      let is : made ≡ Paused poll_pause ∷ [] = subst (λ (z : Wanted). Made own told.Paused z made) wants.1 made_is in
      no_aim f aim (AfterPause u) NeverStops made close t wants.0
      (subst (λ (steps : List Step). RunTurns f [] (AfterPause u) NeverStops steps close t) (sym is)
      (run_turns f CreatesOn (AfterPause u) NeverStops (Paused poll_pause ∷ []) close t (λ r D U. creates_on f r D U) (turns close)));
  less = λ before after h. subst (λ (x : Turn). turn_work x after < rounds_work before + 2) (sym next) (pause_less u before after h);
}
  where
    no : false ≡ true → ⊥
    no e = cc

-- its client has left
pub leaves : (u : Ticket) → Leaves (run.Creating (creating.Pausing u)) (undoing.Withdraw u)
leaves u = record {
  fresh = refl;
  keeps = refl;
  leads = λ f aim w wants. (to_call (Call.withdraw u), refl, (λ more x. gone more x));
  waits = tt;
  less = λ before after h. omega (arith, h.0, h.1);
}

-- a start that has made these steps by now
longer_start : (r : Reservation) (so_far made own : List Step) → Start r ((so_far ++ made) ++ own) → Start r (so_far ++ (made ++ own))
longer_start r so_far made own x = subst (λ (steps : List Step). Start r steps) (append_assoc so_far made own) x

longer_spent : (r : Reservation) (so_far made own : List Step) → SpentStart r ((so_far ++ made) ++ own) → SpentStart r (so_far ++ (made ++ own))
longer_spent r so_far made own x = subst (λ (steps : List Step). SpentStart r steps) (append_assoc so_far made own) x

goes_further : (t : Ticket) (r : Reservation) (so_far made more : List Step) (response : Response) → GoesOnStarting t r (so_far ++ made) more response →
    GoesOnStarting t r so_far (made ++ more) response
goes_further t r so_far made _ response (start_ends own rest _ x rounds) =
    subst (λ (steps : List Step). GoesOnStarting t r so_far steps response) (append_assoc made own rest)
    (start_ends (made ++ own) rest response (longer_start r so_far made own x) rounds)
goes_further t r so_far made more _ (start_finds_spent x) = start_finds_spent (longer_spent r so_far made more x)

start_turns : (f : Request) (u : Ticket) (carry : Carry) (r : Reservation) (so_far made : List Step) (w : Wanted) (close : Bool) (t : Turn) → StartLeads u r (so_far ++ made) t →
    RunTurns f so_far (λ more response. GoesOnStarting u r so_far more response) (λ more. RunStops f (run.Creating (creating.Starting u carry)) w more) made close t
start_turns f u carry r so_far made w close (turn.Go (run.Creating (creating.Starting v next)) short) x = (
  starts r (so_far ++ made),
  x.3.0,
  (r, so_far ++ made, refl, x.1, x.2, x.3.1),
  ([], refl, x.5),
  (λ more response y. subst (λ (z : Ticket). GoesOnStarting z r so_far (made ++ more) response) x.0
      (goes_further v r so_far made more response y)),
  (λ more y. absurd y),
)
start_turns f u carry r so_far made w close (turn.Go (run.Creating (creating.Poll v)) short) x = (
  no_start,
  to_call (Call.poll v),
  (refl, refl),
  (so_far ++ made, sym (append-nil (so_far ++ made)), x.2),
  (λ more response y. start_ends made more response x.1 (subst (λ (z : Ticket). Rounds z more response) x.0 y)),
  (λ more y. absurd y),
)
start_turns f u carry r so_far made w close (turn.Go (run.Creating (creating.Enqueue choices)) short) x = absurd x
start_turns f u carry r so_far made w close (turn.Go (run.Creating creating.Enqueuing) short) x = absurd x
start_turns f u carry r so_far made w close (turn.Go (run.Creating (creating.Polling n)) short) x = absurd x
start_turns f u carry r so_far made w close (turn.Go (run.Creating (creating.Pausing v)) short) x = absurd x
start_turns f u carry r so_far made w close (turn.Go (run.Calling c) short) x = absurd x
start_turns f u carry r so_far made w close (turn.Go (run.Deleting c) short) x = absurd x
start_turns f u carry r so_far made w close (turn.Go (run.Relaying c) short) x = absurd x
start_turns f u carry r so_far made w close (turn.Respond bytes) x = absurd x
start_turns f u carry r so_far made w close (turn.Created bytes session binding) x = absurd x
start_turns f u carry r so_far made w close (turn.Undo session binding) x = absurd x
start_turns f u carry r so_far made w close (turn.RespondLast bytes short) x = (start_finds_spent x.0, x.1, x.2)
start_turns f u carry r so_far made w close turn.Lacks x = inr (hub_spent, start_finds_spent x, refl)

-- the same with what it is that is under way
aimed : (f : Request) (u : Ticket) (carry : Carry) (aim : Aim) (r : Reservation) (so_far made : List Step) (w : Wanted) (close : Bool) (t : Turn) → aim ≡ starts r so_far →
    StartLeads u r (so_far ++ made) t →
    RunTurns f (aim_steps aim) (λ more response. RunFollows f (run.Creating (creating.Starting u carry)) aim w more response)
    (λ more. RunStops f (run.Creating (creating.Starting u carry)) w more) made close t
aimed f u carry aim r so_far made w close t e x =
    subst (λ (b : Aim). RunTurns f (aim_steps b) (λ more response. RunFollows f (run.Creating (creating.Starting u carry)) b w more response)
    (λ more. RunStops f (run.Creating (creating.Starting u carry)) w more) made close t) (sym e) (start_turns f u carry r so_far made w close t x)

-- what the start wants is a call
is_call : (w : places.Wanted) (call : Call) → want_of w (to_call call) → w ≡ places.to_call call
is_call (places.to_ask address ask) call e = absurd (no e)
  where
    no : to_call call ≡ to_ask address ask → ⊥
    no x = cc
is_call (places.to_call k) call e = ap places.to_call (same_call k call (sym e))
is_call (places.over e) call x = absurd x

pub start_moves : (u : Ticket) (carry : Carry) (a : HubAnswer) (close : Bool) (t : Turn) → StartTurns u carry a t →
    IsReady t (tokens_after a (run_tokens (run.Creating (creating.Starting u carry)))) → StartAnswersLess carry a t →
    Moves (run.Creating (creating.Starting u carry)) (told.Hub a) close t
start_moves u carry a close t turns ready less =
    moves (run.Creating (creating.Starting u carry)) a close t ready less (λ f aim call at (r, so_far, e, place, stands, wants) fits keeps.
    aimed f u carry aim r so_far (call_step a call at ∷ []) (to_call call) close t e
    (turns r place so_far call at stands (is_call (wanted_at r place) call wants) fits keeps))

-- what it wants is an exchange
asked_made : (own : Option (List ℕ)) (came : Came) (v : places.Wanted) (w : Wanted) (made : List Step) (at : ℕ) → want_of v w → Fits (told.Node came) w →
    Made own (told.Node came) w made → places.Fits (carried.Node came) v × (made ≡ places.made (carried.Node came) v at)
asked_made own came (places.to_ask address ask) w made at e fits made_is =
    (tt, subst (λ (z : Wanted). Made own (told.Node came) z made) e made_is)
asked_made own came (places.to_call call) w made at e fits made_is = absurd (subst (λ (z : Wanted). Fits (told.Node came) z) e fits)
asked_made own came (places.over x) w made at e fits made_is = absurd e

pub start_moves_by_exchange : (u : Ticket) (carry : Carry) (came : Came) (close : Bool) (t : Turn) → StartMoves u carry (carried.Node came) t →
    IsReady t (run_tokens (run.Creating (creating.Starting u carry))) → StartsLess carry t →
    Moves (run.Creating (creating.Starting u carry)) (told.Node came) close t
start_moves_by_exchange u carry came close t turns ready less =
    moves_by_exchange (run.Creating (creating.Starting u carry)) came close t ready (λ before after h. starts_less carry t before after less h) (λ own f aim w made (r, so_far, e, place, stands, wants) fits made_is.
    let m = asked_made own came (wanted_at r place) w made 0 wants fits made_is in
    aimed f u carry aim r so_far made w close t e
    (subst (λ (steps : List Step). StartLeads u r (so_far ++ steps) t) (sym m.1) (turns r place so_far 0 stands m.0)))

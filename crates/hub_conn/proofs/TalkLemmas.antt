-- What a connection says in each state, and what each answer does.
use Rattle.std.proofs.Common.{◌≡◌, ℕ, ◌-◌, ◌<◌, ◌≤◌, min, Bool, true, false, List, [], ◌++◌, length, take, drop, refl, sym, ap, ◌∙◌, subst, arith, append-nil, length-drop, inl, inr}
use Rattle.std.specs.Borrow.{Bor}
use Rattle.std.specs.Prelude.{Option, None, Some, Result, Err}
use Rattle.std.proofs.lemmas.Bool.{cases_lt}
use Rattle.std.proofs.lemmas.List.{length-take}
use Rattle.http_frames.specs.declared.frames.TheConstants.{LIMITS}
use Rattle.http_frames.specs.declared.frames.FrameLimits.{FrameLimits}
use Rattle.http_frames.specs.Frames.{Request, IsAwaited}
use Rattle.node_client.specs.Held.{Token}
use Rattle.node_client.specs.Steps.{Step}
use Rattle.conn_script.specs.declared.wants.Want.{Want}
use Rattle.conn_script.specs.declared.wants.Want.TheVariants as wants
use Rattle.conn_script.specs.declared.wants.HubCall.{HubCall}
use Rattle.conn_script.specs.declared.wants.Served.{Served}
use Rattle.conn_script.specs.declared.wants.ConnFault.{ConnFault}
use Rattle.conn_script.specs.declared.wants.TheConstants.{LIMIT, PIECE}
use Rattle.conn_script.specs.declared.request.Whole.{Whole}
use Rattle.conn_script.specs.declared.turn.Run.{Run}
use Rattle.conn_script.specs.declared.undoing.Undoing.{Undoing}
use Rattle.conn_script.specs.declared.undoing.Undoing.TheVariants as undo
use Rattle.conn_script.specs.declared.turn.Run.TheVariants as runs
use Rattle.conn_script.specs.declared.calling.Asked.TheVariants as asked
use Rattle.conn_script.specs.declared.calling.Calling.TheVariants as calling
use Rattle.conn_script.specs.declared.deleting.Deleting.TheVariants as deleting
use Rattle.conn_script.specs.declared.relaying.Relaying.TheVariants as relaying
use Rattle.conn_script.specs.declared.creating.Creating.TheVariants as creating
use Rattle.node_client.specs.Carrying as carrying
use Rattle.conn_script.specs.Asking.{IsOf}
use Rattle.conn_script.specs.Begin.{BegunLacks}
use Rattle.conn_script.specs.Responses.{continue_text}
use Rattle.conn_script.specs.Wanted.{Wanted, to_read, to_write, to_begin, to_call, to_ask, to_pause, over, Shows, IsOver, IsScriptWant, Awaited, piece, count, begun, answer_to, Readies, Kind, kind_of, call_of, call_tokens}
use Rattle.conn_script.specs.Running.{IsTaken, run_awaits, run_held, run_tokens, start_awaits}
use Rattle.conn_script.specs.Moving.{AsksFor, AsksForItself}
use Rattle.conn_script.specs.Undo.{UndoAsksFor, IsUndoTaken, undo_awaits, undo_held, undo_leaves, undo_tokens}
use Rattle.hub_conn.specs.declared.talk.Talk.{Talk}
use Rattle.hub_conn.specs.declared.talk.State.{State}
use Rattle.hub_conn.specs.declared.talk.State.TheVariants as states
use Rattle.hub_conn.specs.declared.talk.Outgoing.{Outgoing}
use Rattle.hub_conn.specs.Conversation.{MemoryBroke, before_request, Waits, none as none_yet}
use Rattle.hub_conn.specs.Inbox.{unread, Holds, HoldsWhole}
use Rattle.hub_conn.specs.Talk.{Stands, Rests, Answered, Standing, awaited, state_awaits, held, state_held, tokens, state_tokens, Cause, result_cause, blamed, state_cause, HandsOut, Says, Takes, IsHeld, IsNew, Settles, WaitsRightly, of_nothing}
use Rattle.hub_conn.proofs.ReadLemmas.{WholeTakes}
use Rattle.hub_conn.proofs.StateLemmas.{stands_in, in_state_of, counts_kept, leaves_in, settles_in}
use Rattle.hub_conn.proofs.WorkLemmas.{run_kept, undo_kept}
use Rattle.conn_script.specs.Creating.{no_start}
use Rattle.hub_conn.proofs.GoLemmas.{front_kept, whole_some}
use Rattle.hub_conn.proofs.EndLemmas.{NoneAccepted, unended, read_on_of}

-- ---- wants

awaits_in : (talk : Talk) (s : State) (a : Awaited) → talk.state ≡ s → state_awaits s talk.read ≡ a → awaited talk ≡ a
unfolding awaited
awaits_in talk s a e x = ap (λ (z : State). state_awaits z talk.read) e ∙ x

held_in : (talk : Talk) (s : State) (k : Option Kind) → talk.state ≡ s → state_held s ≡ k → held talk ≡ k
unfolding held
held_in talk s k e x = ap state_held e ∙ x

tokens_in : (talk : Talk) (s : State) (ts : List Token) → talk.state ≡ s → state_tokens s ≡ ts → tokens talk ≡ ts
unfolding tokens
tokens_in talk s ts e x = ap state_tokens e ∙ x

blamed_in : (talk : Talk) (s : State) (cause : Cause) → talk.state ≡ s → state_cause s ≡ cause → blamed talk ≡ cause
unfolding blamed
blamed_in talk s cause e x = ap state_cause e ∙ x

says_as : (v w : Wanted) (own : Option (List ℕ)) (bytes : List ℕ) (steps : List Step) (written : List ℕ) → w ≡ v → Says v own bytes steps written → Says w own bytes steps written
says_as v w own bytes steps written e x = subst (λ (z : Wanted). Says z own bytes steps written) (sym e) x

min_some : (a b : ℕ) → 0 < a → 0 < b → 0 < min a b
min_some a b x y =
    elim (cases_lt a b) [
      | inl l ↦ omega (arith, x, y, l)
      | inr l ↦ omega (arith, x, y, l)
    ]

min_most : (a b : ℕ) → min a b ≤ a
min_most a b =
    elim (cases_lt a b) [
      | inl l ↦ omega (arith, l)
      | inr l ↦ omega (arith, l)
    ]

pub hands_read : WholeTakes → NoneAccepted → (talk : Talk) (most : ℕ) → talk.state ≡ states.Reading → most ≡ min PIECE (LIMIT - talk.read) → HandsOut talk (wants.Read most)
hands_read takes none talk most e most_is = record {
  readies = awaits_in talk states.Reading (piece most) e (ap piece (sym most_is));
  tells = λ own w bytes steps written st.
      let x = in_state_of talk states.Reading own w bytes steps written e st in
      let r = x.in_state in
      let w_is : w ≡ to_read most = r.1 ∙ ap to_read (sym most_is) in record {
        shows = w_is;
        says = says_as (to_read most) w own bytes steps written w_is (
          subst (λ (n : ℕ). 0 < n) (sym most_is) (min_some PIECE (LIMIT - talk.read) (omega arith) (omega (arith, r.2))),
          unended takes none talk own bytes x.rest steps written (read_on_of talk own w bytes steps written x) r.5 (omega (arith, r.2, x.counts.read)),
        );
      };
  no_tokens = λ o. absurd o;
  unblamed = λ same. absurd cc;
  few = λ text same. absurd cc;
  blames = λ result e. absurd cc;
}

-- `100 Continue` is no longer than a piece
few_left : (sent : ℕ) (text : List ℕ) → text ≡ drop sent (continue_text true) → length text ≤ PIECE
few_left sent text e = omega (arith, ap length e, length-drop sent (continue_text true))

pub hands_continue : (talk : Talk) (sent : ℕ) (text : Bor (List ℕ)) → talk.state ≡ states.Continuing sent → text.now ≡ drop sent (continue_text true) → sent < 25 → HandsOut talk (wants.Write text)
hands_continue talk sent text e text_is few = record {
  readies = awaits_in talk (states.Continuing sent) (count (length text.now)) e
      (ap count (sym (ap length text_is ∙ length-drop sent (continue_text true))));
  tells = λ own w bytes steps written st.
      let x = in_state_of talk (states.Continuing sent) own w bytes steps written e st in
      let w_is : w ≡ to_write text.now = x.in_state.1 ∙ ap to_write (sym text_is) in record {
        shows = w_is;
        says = says_as (to_write text.now) w own bytes steps written w_is (omega (arith, ap length text_is, length-drop sent (continue_text true), few));
      };
  no_tokens = λ o. absurd o;
  unblamed = λ same. absurd cc;
  few = λ piece same. let is : text ≡ piece = cc in few_left sent piece.now (ap (λ (b : Bor (List ℕ)). b.now) (sym is) ∙ text_is);
  blames = λ result e. absurd cc;
}

pub hands_write : (talk : Talk) (out : Outgoing) (text : Bor (List ℕ)) → talk.state ≡ states.Writing out → text.now ≡ take PIECE (drop out.sent out.bytes) → HandsOut talk (wants.Write text)
hands_write talk out text e text_is = record {
  readies = awaits_in talk (states.Writing out) (count (length text.now)) e
      (ap count (sym (ap length text_is ∙ length-take PIECE (drop out.sent out.bytes) ∙ ap (λ (n : ℕ). min PIECE n) (length-drop out.sent out.bytes))));
  tells = λ own w bytes steps written st.
      let x = in_state_of talk (states.Writing out) own w bytes steps written e st in
      let w_is : w ≡ to_write text.now = x.wants ∙ ap to_write (ap (λ (u : List ℕ). take PIECE u) x.unsent_is ∙ sym text_is) in record {
        shows = w_is;
        says = says_as (to_write text.now) w own bytes steps written w_is
            (subst (λ (n : ℕ). 0 < n) (sym (ap length text_is ∙ ap (λ (u : List ℕ). length (take PIECE u)) (sym x.unsent_is) ∙ length-take PIECE x.unsent))
            (min_some PIECE (length x.unsent) (omega arith) x.some));
      };
  no_tokens = λ o. absurd o;
  unblamed = λ same. absurd cc;
  few = λ piece same.
      let is : text ≡ piece = cc in
      omega (arith, ap length (ap (λ (b : Bor (List ℕ)). b.now) (sym is) ∙ text_is), length-take PIECE (drop out.sent out.bytes), min_most PIECE (length (drop out.sent out.bytes)));
  blames = λ result e. absurd cc;
}

-- want of memory in what goes before a request
begin_broke : WholeTakes → (talk : Talk) (own : Option (List ℕ)) (w : Wanted) (bytes : List ℕ) (steps : List Step) (written : List ℕ) → (x : Standing states.Beginning talk own w bytes steps written) →
    (lacking : List Step) → BegunLacks own lacking → MemoryBroke own bytes (steps ++ lacking) written
begin_broke takes talk own w bytes steps written x lacking lacks = record {
  requests = x.answered.requests;
  rest = x.rest;
  begins = x.answered.reads;
  owes = whole_some takes talk.inbox x.rest x.in_state.1 x.in_state.2.holds;
  responses = x.responses;
  before = x.before;
  scripts = x.answered.scripts;
  waits = talk.continued;
  waits_so = x.in_state.2.waited;
  written_is = x.written_is ∙ ap (λ (b : List ℕ). x.responses ++ b) x.in_state.5;
  behind = lacking;
  lacks = before_request lacking lacks;
  steps_are = ap (λ (s : List Step). s ++ lacking) (x.steps_are ∙ ap (λ (s : List Step). x.before ++ s) x.in_state.4 ∙ append-nil x.before);
}

pub hands_begin : WholeTakes → (talk : Talk) → talk.state ≡ states.Beginning → HandsOut talk wants.Begin
hands_begin takes talk e = record {
  readies = awaits_in talk states.Beginning begun e refl;
  tells = λ own w bytes steps written st.
      let x = in_state_of talk states.Beginning own w bytes steps written e st in
      let w_is : w ≡ to_begin = x.in_state.3 in record {
        shows = w_is;
        says = says_as to_begin w own bytes steps written w_is (λ lacking lacks. begin_broke takes talk own w bytes steps written x lacking lacks);
      };
  no_tokens = λ o. absurd o;
  unblamed = λ same. blamed_in talk states.Beginning of_nothing e refl;
  few = λ text same. absurd cc;
  blames = λ result e. absurd cc;
}

no_end : (want : Want) → IsScriptWant want → IsOver want → ⊥
no_end wants.Hub x o = o
no_end (wants.Node address request) x o = o
no_end (wants.Pause ms) x o = o
no_end (wants.Read n) x o = o
no_end (wants.Write b) x o = o
no_end wants.Begin x o = o
no_end (wants.Done r) x o = x

-- a want of a script says nothing of the end
says_nothing : (want : Want) (w : Wanted) (own : Option (List ℕ)) (bytes : List ℕ) (steps : List Step) (written : List ℕ) → Shows want w → IsScriptWant want →
    Says w own bytes steps written
says_nothing (wants.Node address request) w own bytes steps written e x = says_as _ w own bytes steps written e tt
says_nothing wants.Hub (to_call call) own bytes steps written e x = tt
says_nothing wants.Hub (to_read n) own bytes steps written e x = absurd e
says_nothing wants.Hub (to_write b) own bytes steps written e x = absurd e
says_nothing wants.Hub to_begin own bytes steps written e x = absurd e
says_nothing wants.Hub (to_ask address ask) own bytes steps written e x = tt
says_nothing wants.Hub (to_pause ms) own bytes steps written e x = tt
says_nothing wants.Hub (over r) own bytes steps written e x = absurd e
says_nothing (wants.Pause ms) w own bytes steps written e x = says_as (to_pause ms) w own bytes steps written e tt
says_nothing (wants.Read n) w own bytes steps written e x = absurd x
says_nothing (wants.Write b) w own bytes steps written e x = absurd x
says_nothing wants.Begin w own bytes steps written e x = absurd x
says_nothing (wants.Done r) w own bytes steps written e x = absurd x

module _ (talk : Talk) (run : Run) (want : Want) (e : talk.state ≡ states.Running run) where
  readies_in : Readies want (run_awaits run) (run_held run) → Readies want (awaited talk) (held talk)
  readies_in r =
      subst (λ (a : Awaited). Readies want a (held talk)) (sym (awaits_in talk (states.Running run) (run_awaits run) e refl))
      (subst (λ (k : Option Kind). Readies want (run_awaits run) k) (sym (held_in talk (states.Running run) (run_held run) e refl)) r)

  hands_shown : Readies want (run_awaits run) (run_held run) → IsScriptWant want →
      ((own : Option (List ℕ)) (w : Wanted) (bytes : List ℕ) (steps : List Step) (written : List ℕ) → Stands talk own w bytes steps written → Shows want w) → HandsOut talk want
  hands_shown ready script shown = record {
    readies = readies_in ready;
    tells = λ own w bytes steps written st.
        let shows : Shows want w = shown own w bytes steps written st in record {
          shows = shows;
          says = says_nothing want w own bytes steps written shows script;
        };
    no_tokens = λ o. absurd (no_end want script o);
    unblamed = λ same. absurd (subst IsScriptWant same script);
    few = λ text same. absurd (subst IsScriptWant same script);
    blames = λ result end. absurd (subst IsScriptWant end script);
  }

  pub hands_run : (whole : Whole) → AsksFor run whole want →
      ((rest : List ℕ) (f : Request) → HoldsWhole talk.inbox rest f → IsOf whole f) → HandsOut talk want
  hands_run whole asks of = hands_shown asks.readies asks.of_script (λ own w bytes steps written st.
      let x = in_state_of talk (states.Running run) own w bytes steps written e st in
      asks.shows x.in_state.0 x.aim w (of x.rest x.in_state.0 x.in_state.1.holds) x.in_state.2.wants)

  pub hands_own : AsksForItself run want → HandsOut talk want
  hands_own asks = hands_shown asks.readies asks.of_script (λ own w bytes steps written st.
      let x = in_state_of talk (states.Running run) own w bytes steps written e st in
      asks.shows x.in_state.0 x.aim w x.in_state.2.wants)

pub hands_undo : (talk : Talk) (fault : ConnFault) (u : Undoing) (want : Want) → talk.state ≡ states.Undoing fault u → UndoAsksFor u want → HandsOut talk want
hands_undo talk fault u want e asks = record {
  readies = subst (λ (a : Awaited). Readies want a (held talk)) (sym (awaits_in talk (states.Undoing fault u) (undo_awaits u) e refl))
      (subst (λ (k : Option Kind). Readies want (undo_awaits u) k) (sym (held_in talk (states.Undoing fault u) (undo_held u) e refl)) asks.readies);
  tells = λ own w bytes steps written st.
      let x = in_state_of talk (states.Undoing fault u) own w bytes steps written e st in
      let shows : Shows want w = asks.shows w x.wants in record {
        shows = shows;
        says = says_nothing want w own bytes steps written shows asks.of_script;
      };
  no_tokens = λ o. absurd (no_end want asks.of_script o);
  unblamed = λ same. absurd (subst IsScriptWant same asks.of_script);
  few = λ text same. absurd (subst IsScriptWant same asks.of_script);
  blames = λ result end. absurd (subst IsScriptWant end asks.of_script);
}

pub hands_done : (talk : Talk) (result : Result Served ConnFault) → talk.state ≡ states.Done result → HandsOut talk (wants.Done result)
hands_done talk result e = record {
  readies = tt;
  tells = λ own w bytes steps written st.
      let x = in_state_of talk (states.Done result) own w bytes steps written e st in record {
        shows = x.0;
        says = says_as (over result) w own bytes steps written x.0 x.1;
      };
  no_tokens = λ o. tokens_in talk (states.Done result) [] e refl;
  unblamed = λ same. absurd cc;
  few = λ text same. absurd cc;
  blames = λ r same. let is : result ≡ r = cc in ap result_cause (sym is) ∙ sym (blamed_in talk (states.Done result) (result_cause result) e refl);
}

-- ---- calls that are handed out

run_withdraws_none : (r : Run) → run_awaits r ≡ answer_to Kind.withdraw → ⊥
run_withdraws_none (runs.Calling (calling.Ask c asked)) e = cc
run_withdraws_none (runs.Calling (calling.Asked asked.Register)) e = cc
run_withdraws_none (runs.Calling (calling.Asked asked.Beat)) e = cc
run_withdraws_none (runs.Calling (calling.Asked asked.Drain)) e = cc
run_withdraws_none (runs.Calling (calling.Asked asked.Remove)) e = cc
run_withdraws_none (runs.Calling (calling.Asked asked.Clear)) e = cc
run_withdraws_none (runs.Calling (calling.Asked asked.Status)) e = cc
run_withdraws_none (runs.Calling (calling.Asked asked.Queue)) e = cc
run_withdraws_none (runs.Deleting (deleting.Lookup id)) e = cc
run_withdraws_none (runs.Deleting (deleting.LookingUp id)) e = cc
run_withdraws_none (runs.Deleting (deleting.End id b)) e = cc
run_withdraws_none (runs.Deleting (deleting.Ending id b)) e = cc
run_withdraws_none (runs.Deleting (deleting.Quit c path)) e = cc
run_withdraws_none (runs.Deleting (deleting.Free c q)) e = cc
run_withdraws_none (runs.Deleting (deleting.Freeing q)) e = cc
run_withdraws_none (runs.Relaying (relaying.Lookup id target)) e = cc
run_withdraws_none (runs.Relaying (relaying.LookingUp id target)) e = cc
run_withdraws_none (runs.Relaying (relaying.Touch id b address target)) e = cc
run_withdraws_none (runs.Relaying (relaying.Touching id b address target)) e = cc
run_withdraws_none (runs.Relaying (relaying.Exchange address target)) e = cc
run_withdraws_none (runs.Creating (creating.Enqueue choices)) e = cc
run_withdraws_none (runs.Creating creating.Enqueuing) e = cc
run_withdraws_none (runs.Creating (creating.Poll t)) e = cc
run_withdraws_none (runs.Creating (creating.Polling n)) e = cc
run_withdraws_none (runs.Creating (creating.Pausing t)) e = cc
run_withdraws_none (runs.Creating (creating.Starting t carry)) e = start (carrying.awaited carry) e
  where
    start : (k : Option carrying.Kind) → start_awaits k ≡ answer_to Kind.withdraw → ⊥
    start None x = cc
    start (Some carrying.Exchange) x = cc
    start (Some carrying.Bind) x = cc
    start (Some carrying.Fail) x = cc
    start (Some carrying.Freed) x = cc

undo_withdraws : (u : Undoing) → undo_awaits u ≡ answer_to Kind.withdraw → undo_leaves u ≡ true
undo_withdraws (undo.Withdraw t) e = refl
undo_withdraws undo.Withdrawing e = refl
undo_withdraws (undo.Waiting t) e = refl
undo_withdraws (undo.End s b) e = absurd cc
undo_withdraws (undo.Ending s b) e = absurd cc
undo_withdraws (undo.Quit c path) e = absurd cc
undo_withdraws (undo.Free c) e = absurd cc
undo_withdraws undo.Freeing e = absurd cc
undo_withdraws undo.Over e = absurd cc

-- what awaits an answer of the hub waits for no pause
waits_for_none : (u : Undoing) (k : Kind) (steps : List Step) → undo_awaits u ≡ answer_to k → WaitsRightly u steps
waits_for_none (undo.Withdraw t) k steps e = tt
waits_for_none undo.Withdrawing k steps e = tt
waits_for_none (undo.Waiting t) k steps e = absurd cc
waits_for_none (undo.End s b) k steps e = tt
waits_for_none (undo.Ending s b) k steps e = tt
waits_for_none (undo.Quit c path) k steps e = tt
waits_for_none (undo.Free c) k steps e = tt
waits_for_none undo.Freeing k steps e = tt
waits_for_none undo.Over k steps e = tt

pub takes_run : (old new : Talk) (r s : Run) (call : HubCall) → old.state ≡ states.Running r → IsTaken r call s → new.state ≡ states.Running s → Rests old new → Takes old call new
takes_run old new r s call e taken at rests = record {
  waits = λ own w bytes steps written st.
      let x = in_state_of old (states.Running r) own w bytes steps written e st in
      awaits_in new (states.Running s) (answer_to (kind_of (call_of call))) at (taken.waits x.in_state.0 x.aim w x.in_state.2.wants);
  keeps = tokens_in old (states.Running r) (run_tokens r) e refl ∙ taken.keeps
      ∙ ap (λ (ts : List Token). call_tokens (call_of call) ++ ts) (sym (tokens_in new (states.Running s) (run_tokens s) at refl));
  blames = blamed_in new (states.Running s) of_nothing at refl ∙ sym (blamed_in old (states.Running r) of_nothing e refl);
  leaves_so = leaves_in new (states.Running s) at ∙ sym (leaves_in old (states.Running r) e);
  withdraws = λ own w bytes steps written t st is.
      let x = in_state_of old (states.Running r) own w bytes steps written e st in
      absurd (run_withdraws_none s (subst (λ (c : HubCall). run_awaits s ≡ answer_to (kind_of (call_of c))) is (taken.waits x.in_state.0 x.aim w x.in_state.2.wants)));
  stands = λ own w bytes steps written st.
      let x = in_state_of old (states.Running r) own w bytes steps written e st in
      let f = x.in_state.0 in
      let u = x.in_state.2 in
      let next = taken.wants f x.aim w u.wants in (
        next.0,
        stands_in new (states.Running s) own w bytes steps written at (record {
          rest = x.rest;
          before = x.before;
          mine = x.mine;
          responses = x.responses;
          since = x.since;
          answered = subst (λ (k : ℕ). Answered own k bytes x.rest x.before x.responses) (sym rests.same.frames) x.answered;
          steps_are = x.steps_are;
          written_is = x.written_is;
          counts = counts_kept old new bytes x.rest rests.same x.counts;
          aim = x.aim;
          settled = x.settled;
          settled_are = x.settled_are;
          short = rests.short ∙ x.short;
          in_state = (
            f,
            front_kept old new x.rest f rests.same.inbox rests.closing rests.continued x.in_state.1,
            record {
              before = u.before;
              mine = u.mine;
              begins = u.begins;
              wants = next.1;
              leads = λ more response y. u.leads more response (taken.leads f x.aim w more response u.wants y);
              stops = λ more y. u.stops more (taken.stops f w more y next.0);
              steps_are = u.steps_are;
            },
            x.in_state.3 ∙ ap continue_text (sym rests.continued),
          );
        }),
      );
  work_is = run_kept old new r s e at rests taken.work_is;
}

pub takes_undo : (old new : Talk) (fault : ConnFault) (u v : Undoing) (call : HubCall) → old.state ≡ states.Undoing fault u → IsUndoTaken u call v → new.state ≡ states.Undoing fault v →
    Takes old call new
takes_undo old new fault u v call e taken at = record {
  waits = λ own w bytes steps written st. awaits_in new (states.Undoing fault v) (answer_to (kind_of (call_of call))) at taken.waits;
  keeps = tokens_in old (states.Undoing fault u) (undo_tokens u) e refl ∙ taken.keeps
      ∙ ap (λ (ts : List Token). call_tokens (call_of call) ++ ts) (sym (tokens_in new (states.Undoing fault v) (undo_tokens v) at refl));
  blames = blamed_in new (states.Undoing fault v) (result_cause (Err fault)) at refl ∙ sym (blamed_in old (states.Undoing fault u) (result_cause (Err fault)) e refl);
  leaves_so = leaves_in new (states.Undoing fault v) at ∙ taken.leaves_so ∙ sym (leaves_in old (states.Undoing fault u) e);
  withdraws = λ own w bytes steps written t st is.
      leaves_in old (states.Undoing fault u) e ∙ sym taken.leaves_so
      ∙ undo_withdraws v (subst (λ (c : HubCall). undo_awaits v ≡ answer_to (kind_of (call_of c))) is taken.waits);
  stands = λ own w bytes steps written st.
      let x = in_state_of old (states.Undoing fault u) own w bytes steps written e st in
      let next = taken.wants w x.wants in (
        next.0,
        stands_in new (states.Undoing fault v) own w bytes steps written at (record {
          wants = next.1;
          waits = waits_for_none v (kind_of (call_of call)) steps taken.waits;
          ends = λ undone y. x.ends undone (taken.leads w undone x.wants y);
        }),
      );
  work_is = undo_kept old new fault u v e at taken.work_is;
}

pub held_at : (talk : Talk) (s : State) → talk.state ≡ s → IsHeld (held talk) → IsHeld (state_held s)
unfolding held
held_at talk s e x = subst (λ (z : State). IsHeld (state_held z)) e x

-- a call is there to be handed out only in a script, or while a session is ended
pub held_only : (talk : Talk) → IsHeld (held talk) → ((r : Run) → ¬ (talk.state ≡ states.Running r)) → ((fault : ConnFault) (u : Undoing) → ¬ (talk.state ≡ states.Undoing fault u)) → ⊥
unfolding held
held_only talk x no_run no_undo = by_state talk.state refl x
  where
    none : false ≡ true → ⊥
    none e = cc

    by_state : (s : State) → talk.state ≡ s → IsHeld (state_held s) → ⊥
    by_state states.Reading e y = none y
    by_state (states.Continuing sent) e y = none y
    by_state states.Beginning e y = none y
    by_state (states.Running r) e y = no_run r e
    by_state (states.Writing out) e y = none y
    by_state (states.Undoing fault u) e y = no_undo fault u e
    by_state (states.Done r) e y = none y

-- ---- a connection of which nothing was read

pub new_talk : (talk : Talk) → NoneAccepted → ((limits : FrameLimits) → 0 < limits.head → IsAwaited limits [] false) → talk.state ≡ states.Reading → talk.read ≡ 0 → talk.begins ≡ 0 →
    talk.frames ≡ 0 → talk.short ≡ false → talk.continued ≡ false → Holds talk.inbox [] → unread talk.inbox ≡ [] → IsNew talk
new_talk talk none empty state read begins frames short continued holds unfed = record {
  fresh = settled.fresh;
  blames = settled.blames;
  no_tokens = settled.holds;
  stays = settled.stays;
  stands = λ own. stands_in talk states.Reading own (to_read PIECE) [] [] [] state (record {
    rest = [];
    before = [];
    mine = [];
    responses = [];
    since = [];
    answered = record { requests = []; reads = refl; scripts = none_yet; count = frames };
    steps_are = refl;
    written_is = refl;
    counts = record { read = read; within = omega (arith, read); begins = omega (arith, read, begins); few = omega (arith, frames, begins) };
    aim = no_start;
    settled = [];
    settled_are = refl;
    short = short;
    in_state = (
      refl,
      ap to_read (sym (ap (λ (n : ℕ). min PIECE (LIMIT - n)) read)),
      omega (arith, read),
      holds,
      subst (λ (b : Bool). Waits [] b) (sym continued) (record { accepted = λ h x. absurd (none LIMITS h x); only = λ so. absurd (no so) }),
      (false, empty LIMITS (omega arith)),
      refl,
      ap continue_text (sym continued),
      unfed,
    );
  });
}
  where
    settled : Settles talk of_nothing []
    settled = settles_in talk states.Reading of_nothing [] state refl refl refl refl

    no : false ≡ true → ⊥
    no e = cc

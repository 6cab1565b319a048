-- What holds at a pause, at a request that is queued and at a read.
use Rattle.std.proofs.Common.{◌≡◌, ℕ, ◌+◌, ◌-◌, ◌<◌, ◌≤◌, Bool, true, false, List, [], ◌∷◌, ◌++◌, length, refl, sym, subst, arith}
use Rattle.std.specs.Prelude.{Option, Some, Result, min}
use Rattle.http_frames.specs.Frames.{Request}
use Rattle.grid_types.specs.declared.capabilities.Cap.{Cap}
use Rattle.grid_types.specs.declared.entry.Outcome.TheVariants as outcome
use Rattle.grid_types.specs.Calls.{Call, Reply}
use Rattle.grid_types.specs.Tokens.{Ticket, Reservation}
use Rattle.node_client.specs.Places as places
use Rattle.node_client.specs.Places.{Place, at_start, at_bind, at_return, at_fail, at_quit, at_free, at_end, wanted_at}
use Rattle.node_client.specs.Steps.{Step, Called, Paused}
use Rattle.conn_script.specs.declared.calling.Calling.TheVariants as calling
use Rattle.conn_script.specs.declared.deleting.Deleting.{Deleting}
use Rattle.conn_script.specs.declared.deleting.Deleting.TheVariants as deleting
use Rattle.conn_script.specs.declared.relaying.Relaying.{Relaying}
use Rattle.conn_script.specs.declared.relaying.Relaying.TheVariants as relaying
use Rattle.conn_script.specs.declared.creating.Creating.TheVariants as creating
use Rattle.conn_script.specs.declared.turn.Run.{Run}
use Rattle.conn_script.specs.declared.turn.Run.TheVariants as run
use Rattle.conn_script.specs.declared.undoing.Undoing.{Undoing}
use Rattle.conn_script.specs.declared.undoing.Undoing.TheVariants as undo
use Rattle.conn_script.specs.declared.wants.ConnFault.{ConnFault}
use Rattle.conn_script.specs.declared.wants.Served.{Served}
use Rattle.conn_script.specs.declared.wants.TheConstants.{LIMIT, PIECE}
use Rattle.conn_script.specs.Creating.{Aim, want_of, paused}
use Rattle.conn_script.specs.Deleting.{DeleteWants}
use Rattle.conn_script.specs.Relaying.{RelayWants}
use Rattle.conn_script.specs.Running.{RunWants, run_tokens, delete_tokens}
use Rattle.conn_script.specs.Undo.{UndoWants, undo_tokens}
use Rattle.conn_script.specs.NewSession.{poll_pause, settled}
use Rattle.conn_script.specs.Messages.{outcome_response}
use Rattle.conn_script.specs.Pauses.{PausesBehindEarlyCalls, ends_early, ends_early_behind, is_early_call}
use Rattle.conn_script.specs.Wanted.{Wanted, to_read, to_write, to_begin, to_call, to_pause, over, call_of, call_tokens}
use Rattle.hub_conn.specs.declared.talk.Talk.{Talk}
use Rattle.hub_conn.specs.declared.talk.State.{State}
use Rattle.hub_conn.specs.declared.talk.State.TheVariants as states
use Rattle.hub_conn.specs.Talk.{Stands, StandsIn, UnderWay, WaitsRightly, tokens, state_tokens}

-- ---- pauses

never : false ≡ true → ⊥
never e = cc

last_behind : (before : Bool) (steps : List Step) → ends_early steps ≡ true → ends_early_behind before steps ≡ true
last_behind before [] e = absurd (never e)
last_behind before (step ∷ steps) e = e

-- the last step of the last steps is the last
pub ends_last : (before : Bool) (steps more : List Step) → ends_early more ≡ true → ends_early_behind before (steps ++ more) ≡ true
ends_last before [] more e = last_behind before more e
ends_last before (step ∷ steps) more e = ends_last (is_early_call step) steps more e

same_pause : (m n : ℕ) → to_pause m ≡ to_pause n → m ≡ n
same_pause m n e = cc

no_call : (call : Call) (ms : ℕ) → to_pause ms ≡ to_call call → ⊥
no_call call ms e = cc

delete_no_pause : (d : Deleting) (ms : ℕ) → DeleteWants d (to_pause ms) → ⊥
delete_no_pause (deleting.Lookup id) ms w = cc
delete_no_pause (deleting.LookingUp id) ms w = cc
delete_no_pause (deleting.End id b) ms w = cc
delete_no_pause (deleting.Ending id b) ms w = cc
delete_no_pause (deleting.Quit c path) ms w = cc
delete_no_pause (deleting.Free c q) ms w = cc
delete_no_pause (deleting.Freeing q) ms (c, w) = cc

relay_no_pause : (f : Request) (r : Relaying) (ms : ℕ) → RelayWants f r (to_pause ms) → ⊥
relay_no_pause f (relaying.Lookup id target) ms w = cc
relay_no_pause f (relaying.LookingUp id target) ms w = cc
relay_no_pause f (relaying.Touch id b address target) ms w = cc
relay_no_pause f (relaying.Touching id b address target) ms w = cc
relay_no_pause f (relaying.Exchange address target) ms w = cc

undo_pauses : (u : Undoing) (ms : ℕ) (steps : List Step) → UndoWants u (to_pause ms) → WaitsRightly u steps → (ms ≡ poll_pause) × (ends_early steps ≡ true)
undo_pauses (undo.Withdraw t) ms steps w x = absurd (no_call (Call.withdraw t) ms w)
undo_pauses undo.Withdrawing ms steps (t, w) x = absurd (no_call (Call.withdraw t) ms w)
undo_pauses (undo.Waiting t) ms steps w x = (same_pause ms poll_pause w, x)
undo_pauses (undo.End s b) ms steps w x = absurd (no_call (Call.end s b) ms w)
undo_pauses (undo.Ending s b) ms steps w x = absurd (no_call (Call.end s b) ms w)
undo_pauses (undo.Quit c path) ms steps w x = absurd cc
undo_pauses (undo.Free c) ms steps w x = absurd (no_call (Call.freed c) ms w)
undo_pauses undo.Freeing ms steps (c, w) x = absurd (no_call (Call.freed c) ms w)
undo_pauses undo.Over ms steps w x = absurd w

start_no_pause : (v : places.Wanted) (ms : ℕ) → want_of v (to_pause ms) → ⊥
start_no_pause (places.to_ask address ask) ms w = cc
start_no_pause (places.to_call call) ms w = cc
start_no_pause (places.over e) ms w = absurd w

run_pauses : PausesBehindEarlyCalls → (own : Option (List ℕ)) (f : Request) (r : Run) (aim : Aim) (ms : ℕ) (steps : List Step) → UnderWay own f r aim (to_pause ms) steps →
    RunWants f r aim (to_pause ms) → (ms ≡ poll_pause) × (ends_early steps ≡ true)
run_pauses law own f (run.Calling (calling.Ask c asked)) aim ms steps x w = absurd (no_call (call_of c) ms w.1.0)
run_pauses law own f (run.Calling (calling.Asked asked)) aim ms steps x w = absurd (no_call w.1.0 ms w.1.1)
run_pauses law own f (run.Deleting d) aim ms steps x w = absurd (delete_no_pause d ms w.1)
run_pauses law own f (run.Relaying r) aim ms steps x w = absurd (relay_no_pause f r ms w.1)
run_pauses law own f (run.Creating (creating.Enqueue choices)) aim ms steps x w = absurd (no_call (Call.enqueue choices) ms w.1)
run_pauses law own f (run.Creating creating.Enqueuing) aim ms steps x (a, choices, w) = absurd (no_call (Call.enqueue choices) ms w)
run_pauses law own f (run.Creating (creating.Poll t)) aim ms steps x w = absurd (no_call (Call.poll t) ms w.1)
run_pauses law own f (run.Creating (creating.Polling n)) aim ms steps x (a, t, w, is) = absurd (no_call (Call.poll t) ms w)
run_pauses law own f (run.Creating (creating.Pausing t)) aim ms steps x w = (
  same_pause ms poll_pause w.1,
  subst (λ (s : List Step). ends_early s ≡ true) (sym x.steps_are)
      (ends_last false x.before x.mine
      (law f x.mine (Called (Call.poll t) 0 (Some (Reply.settled outcome.Cleared)) ∷ []) poll_pause (outcome_response t.request outcome.Cleared)
      (x.leads (Paused poll_pause ∷ Called (Call.poll t) 0 (Some (Reply.settled outcome.Cleared)) ∷ []) (outcome_response t.request outcome.Cleared)
      (paused (Called (Call.poll t) 0 (Some (Reply.settled outcome.Cleared)) ∷ []) (outcome_response t.request outcome.Cleared) (settled 0 outcome.Cleared))))),
)
run_pauses law own f (run.Creating (creating.Starting t carry)) aim ms steps x (r, so_far, a, place, st, w) = absurd (start_no_pause (wanted_at r place) ms w)

no_read_pause : (ms most : ℕ) → to_pause ms ≡ to_read most → ⊥
no_read_pause ms most e = cc

no_write_pause : (ms : ℕ) (text : List ℕ) → to_pause ms ≡ to_write text → ⊥
no_write_pause ms text e = cc

no_begin_pause : (ms : ℕ) → to_pause ms ≡ to_begin → ⊥
no_begin_pause ms e = cc

no_end_pause : (ms : ℕ) (result : Result Served ConnFault) → to_pause ms ≡ over result → ⊥
no_end_pause ms result e = cc

pub pauses : PausesBehindEarlyCalls → (talk : Talk) (own : Option (List ℕ)) (ms : ℕ) (bytes : List ℕ) (steps : List Step) (written : List ℕ) →
    Stands talk own (to_pause ms) bytes steps written → (ms ≡ poll_pause) × (ends_early steps ≡ true)
unfolding Stands
pauses law talk own ms bytes steps written st = by_state talk.state st
  where
    by_state : (s : State) → StandsIn s talk own (to_pause ms) bytes steps written → (ms ≡ poll_pause) × (ends_early steps ≡ true)
    by_state states.Reading x = absurd (no_read_pause ms _ x.in_state.1)
    by_state (states.Continuing sent) x = absurd (no_write_pause ms _ x.in_state.1)
    by_state states.Beginning x = absurd (no_begin_pause ms x.in_state.3)
    by_state (states.Running r) x =
        let told = run_pauses law own x.in_state.0 r x.aim ms x.mine x.in_state.2 x.in_state.2.wants in
        (told.0, subst (λ (s : List Step). ends_early s ≡ true) (sym x.steps_are) (ends_last false x.before x.mine told.1))
    by_state (states.Writing out) x = absurd (no_write_pause ms _ x.wants)
    by_state (states.Undoing fault u) x = undo_pauses u ms steps x.wants x.waits
    by_state (states.Done result) x = absurd (no_end_pause ms result x.0)

-- ---- a request that is queued

module _ (choices : List (List Cap)) where
  abbrev queues : Wanted
  queues = to_call (Call.enqueue choices)

  other_call : (k : Call) → queues ≡ to_call k → call_tokens k ≡ []
  other_call k e = let same : Call.enqueue choices ≡ k = cc in subst (λ (c : Call). call_tokens c ≡ []) same refl

  no_poll : (t : Ticket) → queues ≡ to_call (Call.poll t) → ⊥
  no_poll t e = cc

  delete_holds_none : (d : Deleting) → DeleteWants d queues → delete_tokens d ≡ []
  delete_holds_none (deleting.Lookup id) w = refl
  delete_holds_none (deleting.LookingUp id) w = refl
  delete_holds_none (deleting.End id b) w = refl
  delete_holds_none (deleting.Ending id b) w = refl
  delete_holds_none (deleting.Quit c path) w = absurd cc
  delete_holds_none (deleting.Free c q) w = absurd cc
  delete_holds_none (deleting.Freeing q) w = refl

  undo_holds_none : (u : Undoing) → UndoWants u queues → undo_tokens u ≡ []
  undo_holds_none (undo.Withdraw t) w = absurd cc
  undo_holds_none undo.Withdrawing w = refl
  undo_holds_none (undo.Waiting t) w = absurd cc
  undo_holds_none (undo.End s b) w = refl
  undo_holds_none (undo.Ending s b) w = refl
  undo_holds_none (undo.Quit c path) w = absurd cc
  undo_holds_none (undo.Free c) w = absurd cc
  undo_holds_none undo.Freeing w = refl
  undo_holds_none undo.Over w = refl

  place_queues_none : (r : Reservation) (place : Place) → want_of (wanted_at r place) queues → ⊥
  place_queues_none r (at_bind session caps) w = cc
  place_queues_none r (at_fail why) w = cc
  place_queues_none r (at_free c) w = cc
  place_queues_none r at_start w = cc
  place_queues_none r (at_return session) w = cc
  place_queues_none r (at_quit c) w = cc
  place_queues_none r (at_end end) w = absurd w

  run_holds_none : (f : Request) (r : Run) (aim : Aim) → RunWants f r aim queues → run_tokens r ≡ []
  run_holds_none f (run.Calling (calling.Ask c asked)) aim w = other_call (call_of c) w.1.0
  run_holds_none f (run.Calling (calling.Asked asked)) aim w = refl
  run_holds_none f (run.Deleting d) aim w = delete_holds_none d w.1
  run_holds_none f (run.Relaying r) aim w = refl
  run_holds_none f (run.Creating (creating.Enqueue cs)) aim w = refl
  run_holds_none f (run.Creating creating.Enqueuing) aim w = refl
  run_holds_none f (run.Creating (creating.Poll t)) aim w = absurd (no_poll t w.1)
  run_holds_none f (run.Creating (creating.Polling n)) aim w = refl
  run_holds_none f (run.Creating (creating.Pausing t)) aim w = absurd cc
  run_holds_none f (run.Creating (creating.Starting t carry)) aim (r, so_far, a, place, st, w) = absurd (place_queues_none r place w)

pub enqueues : (talk : Talk) (own : Option (List ℕ)) (choices : List (List Cap)) (bytes : List ℕ) (steps : List Step) (written : List ℕ) →
    Stands talk own (to_call (Call.enqueue choices)) bytes steps written → tokens talk ≡ []
unfolding Stands tokens
enqueues talk own choices bytes steps written st = by_state talk.state st
  where
    by_state : (s : State) → StandsIn s talk own (to_call (Call.enqueue choices)) bytes steps written → state_tokens s ≡ []
    by_state states.Reading x = refl
    by_state (states.Continuing sent) x = refl
    by_state states.Beginning x = refl
    by_state (states.Running r) x = run_holds_none choices x.in_state.0 r x.aim x.in_state.2.wants
    by_state (states.Writing out) x = refl
    by_state (states.Undoing fault u) x = undo_holds_none choices u x.wants
    by_state (states.Done result) x = refl

-- ---- a read

same_most : (m n : ℕ) → to_read m ≡ to_read n → m ≡ n
same_most m n e = cc

within : (most read bytes : ℕ) → most ≡ min PIECE (LIMIT - read) → read < LIMIT → read ≡ bytes → bytes + most ≤ LIMIT
within most read bytes is below count =
    let few : most ≤ LIMIT - read = grind arith in
    omega (arith, few, below, count)

no_write_read : (most : ℕ) (text : List ℕ) → to_read most ≡ to_write text → ⊥
no_write_read most text e = cc

no_begin_read : (most : ℕ) → to_read most ≡ to_begin → ⊥
no_begin_read most e = cc

no_call_read : (most : ℕ) (call : Call) → to_read most ≡ to_call call → ⊥
no_call_read most call e = cc

no_end_read : (most : ℕ) (result : Result Served ConnFault) → to_read most ≡ over result → ⊥
no_end_read most result e = cc

delete_no_read : (d : Deleting) (most : ℕ) → DeleteWants d (to_read most) → ⊥
delete_no_read (deleting.Lookup id) most w = cc
delete_no_read (deleting.LookingUp id) most w = cc
delete_no_read (deleting.End id b) most w = cc
delete_no_read (deleting.Ending id b) most w = cc
delete_no_read (deleting.Quit c path) most w = cc
delete_no_read (deleting.Free c q) most w = cc
delete_no_read (deleting.Freeing q) most (c, w) = cc

relay_no_read : (f : Request) (r : Relaying) (most : ℕ) → RelayWants f r (to_read most) → ⊥
relay_no_read f (relaying.Lookup id target) most w = cc
relay_no_read f (relaying.LookingUp id target) most w = cc
relay_no_read f (relaying.Touch id b address target) most w = cc
relay_no_read f (relaying.Touching id b address target) most w = cc
relay_no_read f (relaying.Exchange address target) most w = cc

undo_no_read : (u : Undoing) (most : ℕ) → UndoWants u (to_read most) → ⊥
undo_no_read (undo.Withdraw t) most w = cc
undo_no_read undo.Withdrawing most (t, w) = cc
undo_no_read (undo.Waiting t) most w = cc
undo_no_read (undo.End s b) most w = cc
undo_no_read (undo.Ending s b) most w = cc
undo_no_read (undo.Quit c path) most w = cc
undo_no_read (undo.Free c) most w = cc
undo_no_read undo.Freeing most (c, w) = cc
undo_no_read undo.Over most w = absurd w

start_no_read : (v : places.Wanted) (most : ℕ) → want_of v (to_read most) → ⊥
start_no_read (places.to_ask address ask) most w = cc
start_no_read (places.to_call call) most w = cc
start_no_read (places.over e) most w = absurd w

run_no_read : (f : Request) (r : Run) (aim : Aim) (most : ℕ) → RunWants f r aim (to_read most) → ⊥
run_no_read f (run.Calling (calling.Ask c asked)) aim most w = no_call_read most (call_of c) w.1.0
run_no_read f (run.Calling (calling.Asked asked)) aim most w = no_call_read most w.1.0 w.1.1
run_no_read f (run.Deleting d) aim most w = delete_no_read d most w.1
run_no_read f (run.Relaying r) aim most w = relay_no_read f r most w.1
run_no_read f (run.Creating (creating.Enqueue choices)) aim most w = no_call_read most (Call.enqueue choices) w.1
run_no_read f (run.Creating creating.Enqueuing) aim most (a, choices, w) = no_call_read most (Call.enqueue choices) w
run_no_read f (run.Creating (creating.Poll t)) aim most w = no_call_read most (Call.poll t) w.1
run_no_read f (run.Creating (creating.Polling n)) aim most (a, t, w, is) = no_call_read most (Call.poll t) w
run_no_read f (run.Creating (creating.Pausing t)) aim most (a, w) = cc
run_no_read f (run.Creating (creating.Starting t carry)) aim most (r, so_far, a, place, st, w) = start_no_read (wanted_at r place) most w

pub reads : (talk : Talk) (own : Option (List ℕ)) (most : ℕ) (bytes : List ℕ) (steps : List Step) (written : List ℕ) →
    Stands talk own (to_read most) bytes steps written → length bytes + most ≤ LIMIT
unfolding Stands
reads talk own most bytes steps written st = by_state talk.state st
  where
    by_state : (s : State) → StandsIn s talk own (to_read most) bytes steps written → length bytes + most ≤ LIMIT
    by_state states.Reading x = within most talk.read (length bytes) (same_most most _ x.in_state.1) x.in_state.2 x.counts.read
    by_state (states.Continuing sent) x = absurd (no_write_read most _ x.in_state.1)
    by_state states.Beginning x = absurd (no_begin_read most x.in_state.3)
    by_state (states.Running r) x = absurd (run_no_read x.in_state.0 r x.aim most x.in_state.2.wants)
    by_state (states.Writing out) x = absurd (no_write_read most _ x.wants)
    by_state (states.Undoing fault u) x = absurd (undo_no_read u most x.wants)
    by_state (states.Done result) x = absurd (no_end_read most result x.0)

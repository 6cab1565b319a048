-- The script of the request at the front goes on, or is over.
use Rattle.std.proofs.Common.{◌≡◌, ◌⊎◌, ℕ, ◌<◌, Bool, true, false, ◌||◌, List, [], ◌++◌, length, refl, sym, ap, ◌∙◌, subst, arith, append-nil, append_assoc, length-append, inl, inr}
use Rattle.std.specs.Prelude.{Option, Err}
use Rattle.http_frames.specs.declared.frames.TheConstants.{LIMITS}
use Rattle.http_frames.specs.Frames.{Request, IsWhole}
use Rattle.grid_types.specs.Calls.{Call}
use Rattle.node_client.specs.Steps.{Step, met_want}
use Rattle.conn_script.specs.declared.wants.ConnFault.{ConnFault}
use Rattle.conn_script.specs.declared.turn.Run.{Run}
use Rattle.conn_script.specs.declared.turn.Turn.{Turn}
use Rattle.conn_script.specs.declared.turn.Turn.TheVariants as turn
use Rattle.conn_script.specs.declared.undoing.Undoing.{Undoing}
use Rattle.conn_script.specs.declared.undoing.Undoing.TheVariants as undo
use Rattle.conn_script.specs.Responses.{Response, created, hub_spent, left as no_response, continue_text}
use Rattle.conn_script.specs.Script.{Script, Lacks, behind_all}
use Rattle.conn_script.specs.Begin.{Begun}
use Rattle.conn_script.specs.Undo.{Undoes, UndoWants, UndoFollows, UndoLeads, undo_goes_on}
use Rattle.conn_script.specs.Wanted.{Wanted, to_call}
use Rattle.conn_script.specs.Creating.{no_start, aim_steps}
use Rattle.conn_script.specs.Turns.{Turns, Completes, Stops}
use Rattle.conn_script.specs.Running.{RunFollows, RunStops, RunTurns, RunsOn}
use Rattle.conn_script.specs.Routing.{FirstTurn}
use Rattle.hub_conn.specs.declared.inbox.Inbox.{Inbox}
use Rattle.hub_conn.specs.declared.talk.Talk.{Talk}
use Rattle.hub_conn.specs.declared.talk.State.TheVariants as states
use Rattle.hub_conn.specs.Conversation.{LeftOff, MemoryBroke, in_request, Finished}
use Rattle.hub_conn.specs.Inbox.{unread, HoldsWhole}
use Rattle.hub_conn.specs.Talk.{SameBut, Rests, Answered, AtFront, Standing, IsTurned, IsComplete, StandsNow, EndsUndone, HasUndone}
use Rattle.hub_conn.proofs.ReadLemmas.{WholeStays, WholeTakes}
use Rattle.hub_conn.proofs.ScriptLemmas.{met_more, met_none, begun_meets_none}
use Rattle.hub_conn.proofs.StateLemmas.{stands_in, done_stands, counts_kept}
use Rattle.hub_conn.proofs.EndLemmas.{settled_all}

-- ---- what a script's turn says of the whole script

pub turns_map : (f : Request) (so_far : List Step) (C D : Completes) (S T : Stops) (made : List Step) (close : Bool) (t : Turn) →
    ((more : List Step) (response : Response) → C more response → D more response) → ((more : List Step) → S more → T more) →
    RunTurns f so_far C S made close t → RunTurns f so_far D T made close t
turns_map f so_far C D S T made close (turn.Go next short) c s x =
    (x.0, x.1, x.2, x.3, (λ more response y. c (made ++ more) response (x.4 more response y)), (λ more y. s (made ++ more) (x.5 more y)))
turns_map f so_far C D S T made close (turn.Respond bytes) c s x = (x.0, c made x.0 x.1, x.2, x.3, x.4, x.5)
turns_map f so_far C D S T made close (turn.RespondLast bytes short) c s x = (c made hub_spent x.0, x.1, x.2)
turns_map f so_far C D S T made close (turn.Created bytes session binding) c s x =
    (x.0, c made (created session x.0 binding) x.1, x.2, x.3)
turns_map f so_far C D S T made close (turn.Undo session binding) c s x = (x.0, c made (created session x.0 binding) x.1)
turns_map f so_far C D S T made close turn.Lacks c s (inl stops) = inl (s made stops)
turns_map f so_far C D S T made close turn.Lacks c s (inr (response, completes, undoes)) = inr (response, c made response completes, undoes)

-- the first turn of a script
pub first_turns : (f : Request) (C : Completes) (S : Stops) (close : Bool) (t : Turn) → Turns (RunsOn f) C S [] close t → RunTurns f [] C S [] close t
first_turns f C S close (turn.Go next short) x =
    let y = x.0 in (y.0, y.1, y.2, ([], sym y.3, x.1), y.4, y.5)
first_turns f C S close (turn.Respond bytes) x = x
first_turns f C S close (turn.RespondLast bytes short) x = x
first_turns f C S close (turn.Created bytes session binding) x = x
first_turns f C S close (turn.Undo session binding) x = x
first_turns f C S close turn.Lacks x = x

-- ---- before a turn

pub front_kept : (old new : Talk) (rest : List ℕ) (f : Request) → new.inbox ≡ old.inbox → new.closes ≡ old.closes → new.continued ≡ old.continued → AtFront old rest f →
    AtFront new rest f
front_kept old new rest f inbox closing continued x = record {
  holds = subst (λ (i : Inbox). HoldsWhole i rest f) (sym inbox) x.holds;
  closes_is = closing ∙ x.closes_is;
  continued_is = continued ∙ x.continued_is;
  waited = λ e. x.waited (sym continued ∙ e);
}

-- an answer was taken by the run
pub turned_of : (old new : Talk) (run : Run) (own : Option (List ℕ)) (w : Wanted) (bytes : List ℕ) (steps : List Step) (written : List ℕ) (made : List Step) (t : Turn) →
    (x : Standing (states.Running run) old own w bytes steps written) → Rests old new →
    RunTurns x.in_state.0 (aim_steps x.aim) (λ more response. RunFollows x.in_state.0 run x.aim w more response) (λ more. RunStops x.in_state.0 run w more) made old.closes t →
    IsTurned new own bytes (steps ++ made) written t
turned_of old new run own w bytes steps written made t x rests turns =
    let f = x.in_state.0 in
    let u = x.in_state.2 in record {
      rest = x.rest;
      f = f;
      aim = x.aim;
      before = x.before;
      begun = u.before;
      mine = u.mine;
      made = made;
      responses = x.responses;
      answered = subst (λ (k : ℕ). Answered own k bytes x.rest x.before x.responses) (sym rests.same.frames) x.answered;
      at_front = front_kept old new x.rest f rests.same.inbox rests.closing rests.continued x.in_state.1;
      counts = counts_kept old new bytes x.rest rests.same x.counts;
      begins = u.begins;
      turns = subst (λ (b : Bool). RunTurns f (aim_steps x.aim) (λ more response. Script f (u.mine ++ more) response) (λ more. Lacks f (u.mine ++ more)) made b t) (sym rests.closing)
          (turns_map f (aim_steps x.aim) (λ more response. RunFollows f run x.aim w more response) (λ more response. Script f (u.mine ++ more) response)
          (λ more. RunStops f run w more) (λ more. Lacks f (u.mine ++ more)) made old.closes t (λ more response y. u.leads more response y) (λ more y. u.stops more y) turns);
      steps_are = ap (λ (s : List Step). s ++ made) (x.steps_are ∙ ap (λ (s : List Step). x.before ++ s) u.steps_are)
          ∙ append_assoc x.before (u.before ++ u.mine) made ∙ ap (λ (s : List Step). x.before ++ s) (append_assoc u.before u.mine made);
      settled = x.settled;
      settled_are = sym (x.steps_are ∙ ap (λ (s : List Step). x.before ++ s) u.steps_are) ∙ x.settled_are;
      short = rests.short ∙ x.short;
      written_is = x.written_is ∙ ap (λ (b : List ℕ). x.responses ++ b) (x.in_state.3 ∙ ap continue_text (sym rests.continued));
    }

-- what goes before the request was done
pub turned_first : (old new : Talk) (own : Option (List ℕ)) (w : Wanted) (bytes : List ℕ) (steps : List Step) (written : List ℕ) (begun : List Step) (t : Turn) →
    (x : Standing states.Beginning old own w bytes steps written) → Rests old new → Begun own begun →
    FirstTurn x.in_state.1 t old.closes → IsTurned new own bytes (steps ++ begun) written t
turned_first old new own w bytes steps written begun t x rests begins turns =
    let f = x.in_state.1 in
    let before : steps ≡ x.before = x.steps_are ∙ ap (λ (s : List Step). x.before ++ s) x.in_state.4 ∙ append-nil x.before in record {
      rest = x.rest;
      f = f;
      aim = no_start;
      before = x.before;
      begun = begun;
      mine = [];
      made = [];
      responses = x.responses;
      answered = subst (λ (k : ℕ). Answered own k bytes x.rest x.before x.responses) (sym rests.same.frames) x.answered;
      at_front = front_kept old new x.rest f rests.same.inbox rests.closing rests.continued x.in_state.2;
      counts = counts_kept old new bytes x.rest rests.same x.counts;
      begins = begins;
      turns = subst (λ (b : Bool). RunTurns f [] (λ more response. Script f more response) (λ more. Lacks f more) [] b t) (sym rests.closing)
          (first_turns f (λ more response. Script f more response) (λ more. Lacks f more) old.closes t turns);
      steps_are = ap (λ (s : List Step). s ++ begun) before ∙ ap (λ (s : List Step). x.before ++ s) (sym (append-nil begun));
      settled = x.before ++ begun;
      settled_are = ap (λ (s : List Step). x.before ++ s) (append-nil begun) ∙ sym (append-nil (x.before ++ begun));
      short = rests.short ∙ settled_all states.Beginning old own w bytes steps written x x.in_state.0 ∙ ap met_want before
          ∙ sym (met_none x.before begun (begun_meets_none own begun begins));
      written_is = x.written_is ∙ ap (λ (b : List ℕ). x.responses ++ b) (x.in_state.5 ∙ ap continue_text (sym rests.continued));
    }

-- ---- after a turn

-- the steps that are settled by now
settled_now : (before begun mine made settled so_far : List Step) → before ++ (begun ++ mine) ≡ settled ++ so_far →
    before ++ (begun ++ (mine ++ made)) ≡ settled ++ (so_far ++ made)
settled_now before begun mine made settled so_far e =
    ap (λ (s : List Step). before ++ s) (sym (append_assoc begun mine made)) ∙ sym (append_assoc before (begun ++ mine) made)
    ∙ ap (λ (s : List Step). s ++ made) e ∙ append_assoc settled so_far made

-- it goes on
pub goes_on : (old new : Talk) (next : Run) (short : Bool) (own : Option (List ℕ)) (bytes : List ℕ) (steps : List Step) (written : List ℕ) →
    IsTurned old own bytes steps written (turn.Go next short) → new.state ≡ states.Running next → SameBut old new → new.continued ≡ old.continued → new.closes ≡ old.closes →
    new.short ≡ (old.short || short) → StandsNow new own bytes steps written
goes_on old new next short own bytes steps written x state same continued closing short_is =
    let t = x.turns in
    let s = t.3 in (
      t.1,
      stands_in new (states.Running next) own t.1 bytes steps written state (record {
        rest = x.rest;
        before = x.before;
        mine = x.begun ++ (x.mine ++ x.made);
        responses = x.responses;
        since = continue_text new.continued;
        answered = subst (λ (k : ℕ). Answered own k bytes x.rest x.before x.responses) (sym same.frames) x.answered;
        steps_are = x.steps_are;
        written_is = x.written_is ∙ ap (λ (b : Bool). x.responses ++ continue_text b) (sym continued);
        counts = counts_kept old new bytes x.rest same x.counts;
        aim = t.0;
        settled = x.settled ++ s.0;
        settled_are = x.steps_are ∙ settled_now x.before x.begun x.mine x.made x.settled (aim_steps x.aim) x.settled_are
            ∙ ap (λ (z : List Step). x.settled ++ z) s.1 ∙ sym (append_assoc x.settled s.0 (aim_steps t.0));
        short = short_is ∙ ap (λ (b : Bool). b || short) x.short ∙ ap (λ (b : Bool). met_want x.settled || b) s.2 ∙ sym (met_more x.settled s.0);
        in_state = (
          x.f,
          front_kept old new x.rest x.f same.inbox closing continued x.at_front,
          record {
            before = x.begun;
            mine = x.mine ++ x.made;
            begins = x.begins;
            wants = t.2;
            leads = λ more response y. subst (λ (z : List Step). Script x.f z response) (sym (append_assoc x.mine x.made more)) (t.4 more response y);
            stops = λ more y. subst (λ (z : List Step). Lacks x.f z) (sym (append_assoc x.mine x.made more)) (t.5 more y);
            steps_are = refl;
          },
          refl,
        );
      }),
    )

-- it is over with this response
pub complete_of : (old new : Talk) (t : Turn) (own : Option (List ℕ)) (response : Response) (bytes : List ℕ) (steps : List Step) (written : List ℕ) →
    (x : IsTurned old own bytes steps written t) → Script x.f (x.mine ++ x.made) response → new.inbox ≡ old.inbox → SameBut old new → new.continued ≡ old.continued → new.closes ≡ old.closes →
    new.short ≡ met_want steps → IsComplete new own x.f response bytes steps written
complete_of old new t own response bytes steps written x script inbox same continued closing short = record {
  rest = x.rest;
  before = x.before;
  mine = x.begun ++ (x.mine ++ x.made);
  responses = x.responses;
  answered = subst (λ (k : ℕ). Answered own k bytes x.rest x.before x.responses) (sym same.frames) x.answered;
  at_front = front_kept old new x.rest x.f inbox closing continued x.at_front;
  answers = record { begun = x.begun; script_steps = x.mine ++ x.made; begins = x.begins; script = script; steps_are = refl };
  steps_are = x.steps_are;
  written_is = x.written_is ∙ ap (λ (b : Bool). x.responses ++ continue_text b) (sym continued);
  counts = counts_kept old new bytes x.rest same x.counts;
  short = short;
}

-- no want of memory was met, or it is told
pub short_none : (old : Talk) (t : Turn) (own : Option (List ℕ)) (bytes : List ℕ) (steps : List Step) (written : List ℕ) → (x : IsTurned old own bytes steps written t) →
    met_want (aim_steps x.aim ++ x.made) ≡ false → old.short ≡ met_want steps
short_none old t own bytes steps written x none =
    x.short ∙ sym (met_none x.settled (aim_steps x.aim ++ x.made) none)
    ∙ ap met_want (sym (x.steps_are ∙ settled_now x.before x.begun x.mine x.made x.settled (aim_steps x.aim) x.settled_are))

pub short_told : (old : Talk) (t : Turn) (short : Bool) (own : Option (List ℕ)) (bytes : List ℕ) (steps : List Step) (written : List ℕ) → (x : IsTurned old own bytes steps written t) →
    short ≡ met_want (aim_steps x.aim ++ x.made) → (old.short || short) ≡ met_want steps
short_told old t short own bytes steps written x told =
    ap (λ (b : Bool). b || short) x.short ∙ ap (λ (b : Bool). met_want x.settled || b) told ∙ sym (met_more x.settled (aim_steps x.aim ++ x.made))
    ∙ ap met_want (sym (x.steps_are ∙ settled_now x.before x.begun x.mine x.made x.settled (aim_steps x.aim) x.settled_are))

whole_front : (inbox : Inbox) (rest : List ℕ) (f : Request) → WholeStays → HoldsWhole inbox rest f → (behind : List ℕ) × IsWhole LIMITS rest f.0 f.1 behind
whole_front inbox rest f stays (front, read, is, whole, at_end) =
    (unread inbox, subst (λ (b : List ℕ). IsWhole LIMITS b f.0 f.1 (unread inbox)) (sym is) (stays LIMITS front (unread inbox) f.0 f.1 [] whole))

-- it has bytes
pub whole_some : WholeTakes → (inbox : Inbox) (rest : List ℕ) (f : Request) → HoldsWhole inbox rest f → 0 < length rest
whole_some takes inbox rest f (front, read, is, whole, at_end) =
    omega (arith, takes LIMITS front f.0 f.1 [] whole, ap length is, length-append front (unread inbox))

-- want of memory ends it
pub broke : WholeStays → WholeTakes → (old : Talk) (t : Turn) (own : Option (List ℕ)) (bytes : List ℕ) (steps more : List Step) (written : List ℕ) → (x : IsTurned old own bytes steps written t) →
    Lacks x.f ((x.mine ++ x.made) ++ more) → MemoryBroke own bytes (steps ++ more) written
broke stays takes old t own bytes steps more written x lacks =
    let w = whole_front old.inbox x.rest x.f stays x.at_front.holds in record {
      requests = x.answered.requests;
      rest = x.rest;
      begins = x.answered.reads;
      owes = whole_some takes old.inbox x.rest x.f x.at_front.holds;
      responses = x.responses;
      before = x.before;
      scripts = x.answered.scripts;
      waits = old.continued;
      waits_so = x.at_front.waited;
      written_is = x.written_is;
      behind = x.begun ++ ((x.mine ++ x.made) ++ more);
      lacks = in_request x.f w.0 x.begun ((x.mine ++ x.made) ++ more) w.1 x.begins lacks;
      steps_are = ap (λ (s : List Step). s ++ more) x.steps_are ∙ append_assoc x.before (x.begun ++ (x.mine ++ x.made)) more
          ∙ ap (λ (s : List Step). x.before ++ s) (append_assoc x.begun (x.mine ++ x.made) more);
    }

-- at once
pub broke_now : WholeStays → WholeTakes → (old : Talk) (t : Turn) (own : Option (List ℕ)) (bytes : List ℕ) (steps : List Step) (written : List ℕ) → (x : IsTurned old own bytes steps written t) →
    Lacks x.f (x.mine ++ x.made) ⊎ ((response : Response) × Script x.f (x.mine ++ x.made) response × Undoes response []) → MemoryBroke own bytes steps written
broke_now stays takes old t own bytes steps written x (inl lacks) =
    subst (λ (s : List Step). MemoryBroke own bytes s written) (append-nil steps)
    (broke stays takes old t own bytes steps [] written x (subst (λ (s : List Step). Lacks x.f s) (sym (append-nil (x.mine ++ x.made))) lacks))
broke_now stays takes old t own bytes steps written x (inr (response, script, undoes)) =
    subst (λ (s : List Step). MemoryBroke own bytes s written) (append-nil steps)
    (broke stays takes old t own bytes steps [] written x (behind_all (x.mine ++ x.made) [] response script undoes))

-- ---- a client that has left

pub left_off : WholeStays → (old : Talk) (run : Run) (own : Option (List ℕ)) (w : Wanted) (bytes : List ℕ) (steps more : List Step) (written : List ℕ) →
    (x : Standing (states.Running run) old own w bytes steps written) → RunFollows x.in_state.0 run x.aim w more no_response → LeftOff own bytes (steps ++ more) written
left_off stays old run own w bytes steps more written x follows =
    let f = x.in_state.0 in
    let front = x.in_state.1 in
    let u = x.in_state.2 in
    let whole = whole_front old.inbox x.rest f stays front.holds in record {
      requests = x.answered.requests;
      rest = x.rest;
      begins = x.answered.reads;
      responses = x.responses;
      before = x.before;
      scripts = x.answered.scripts;
      f = f;
      behind = whole.0;
      whole = whole.1;
      mine = u.before ++ (u.mine ++ more);
      answers = record { begun = u.before; script_steps = u.mine ++ more; begins = u.begins; script = u.leads more no_response follows; steps_are = refl };
      steps_are = ap (λ (s : List Step). s ++ more) (x.steps_are ∙ ap (λ (s : List Step). x.before ++ s) u.steps_are)
          ∙ append_assoc x.before (u.before ++ u.mine) more ∙ ap (λ (s : List Step). x.before ++ s) (append_assoc u.before u.mine more);
      written_is = x.written_is ∙ ap (λ (b : List ℕ). x.responses ++ b) (x.in_state.3 ∙ ap continue_text front.continued_is);
    }

-- ---- what is done after a fault

pub undoing_stands : (new : Talk) (fault : ConnFault) (session : List ℕ) (binding : ℕ) → new.state ≡ states.Undoing fault (undo.End session binding) → EndsUndone fault session binding new
undoing_stands new fault session binding state own bytes steps written ends = (
  to_call (Call.end session binding),
  stands_in new (states.Undoing fault (undo.End session binding)) own (to_call (Call.end session binding)) bytes steps written state
      (record { wants = refl; waits = tt; ends = ends }),
)

-- it goes on
pub undone_stands : (new : Talk) (fault : ConnFault) (u : Undoing) → ¬ (u ≡ undo.Over) → new.state ≡ states.Undoing fault u → HasUndone fault u new
undone_stands new fault u other state own bytes steps written waits leads =
    let x = on u other leads in
    (x.0, stands_in new (states.Undoing fault u) own x.0 bytes steps written state (record { wants = x.1; waits = waits; ends = x.2 }))
  where
    on : (v : Undoing) → ¬ (v ≡ undo.Over) → UndoLeads v (λ more. Finished own (Err fault) bytes (steps ++ more) written) →
        (w : Wanted) × UndoWants v w × ((more : List Step) → UndoFollows v w more → Finished own (Err fault) bytes (steps ++ more) written)
    on undo.Over n x = absurd (n refl)
    on (undo.Withdraw t) n x = x
    on undo.Withdrawing n x = x
    on (undo.Waiting t) n x = x
    on (undo.End s b) n x = x
    on (undo.Ending s b) n x = x
    on (undo.Quit c path) n x = x
    on (undo.Free c) n x = x
    on undo.Freeing n x = x

-- it is over
pub undone_done : (new : Talk) (fault : ConnFault) (u : Undoing) → u ≡ undo.Over → new.state ≡ states.Done (Err fault) → HasUndone fault u new
undone_done new fault u is state own bytes steps written waits leads =
    let x = subst (λ (v : Undoing). UndoLeads v (λ more. Finished own (Err fault) bytes (steps ++ more) written)) is leads in
    done_stands new (Err fault) own bytes steps written state (subst (λ (s : List Step). Finished own (Err fault) bytes s written) (append-nil steps) x)

pub goes_when_left : (u : Undoing) → ¬ (u ≡ undo.Over) → (u ≡ undo.Over) ⊎ (undo_goes_on u ≡ true) → undo_goes_on u ≡ true
goes_when_left u other (inl over) = absurd (other over)
goes_when_left u other (inr goes) = goes

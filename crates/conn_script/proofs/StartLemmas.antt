-- A start within a New Session: its calls are taken, and answers move it on.
use Rattle.std.proofs.Common.{◌≡◌, ◌≢◌, ℕ, ◌+◌, Bool, true, false, ◌||◌, ◌&&◌, List, [], ◌∷◌, ◌++◌, refl, sym, ◌∙◌, ap, subst}
use Rattle.std.specs.Prelude.{Option, Some, None, Result, Ok, Err, IfOk, is_some}
use Rattle.std.proofs.lemmas.List.Folds.{list_any-append}
use Rattle.grid_types.specs.declared.text.NoMemory.{NoMemory}
use Rattle.grid_types.specs.declared.capabilities.Cap.{Cap}
use Rattle.grid_types.specs.declared.entry.FailWhy.{FailWhy}
use Rattle.grid_types.specs.Tokens.{Ticket, Reservation, Closing}
use Rattle.grid_types.specs.Calls.{Call}
use Rattle.hub_core.specs.declared.answers.Binding.{Binding}
use Rattle.hub_core.specs.declared.answers.Failing.{Failing}
use Rattle.http_frames.specs.declared.writing.NodeRequest.{NodeRequest}
use Rattle.http_frames.specs.Frames.{Request}
use Rattle.node_client.specs.declared.carry.Carry.{Carry}
use Rattle.node_client.specs.declared.wants.CarryAnswer.{CarryAnswer}
use Rattle.node_client.specs.declared.wants.CarryAnswer.TheVariants as carried
use Rattle.node_client.specs.declared.wants.CarryEnd.{CarryEnd}
use Rattle.node_client.specs.declared.wants.CarryWant.{CarryWant}
use Rattle.node_client.specs.declared.wants.CarryWant.TheVariants as asks
use Rattle.node_client.specs.Held.{Token, of_ticket, of_reservation, of_closing, carry_tokens, told_tokens}
use Rattle.node_client.specs.Places as places
use Rattle.node_client.specs.Places.{Place, at_start, at_bind, at_return, at_fail, at_quit, at_free, at_end, wanted_at, made, gives_up_at, IsFreed, IsFail, FitsBind}
use Rattle.node_client.specs.Carrying as carrying
use Rattle.node_client.specs.Carrying.{OfEach, HandsOut, Takes, Feeds, Readies, FinishedAt, awaited, held, is_fresh}
use Rattle.node_client.specs.StandLaws.{stands_leads}
use Rattle.node_client.specs.Start.{Start}
use Rattle.node_client.specs.Steps.{Step, Spent, met_want, gives_up, step_lacks}
use Rattle.conn_script.specs.declared.creating.Creating.TheVariants as creating
use Rattle.conn_script.specs.declared.turn.Run.TheVariants as run
use Rattle.conn_script.specs.declared.turn.Turn.{Turn}
use Rattle.conn_script.specs.declared.turn.Turn.TheVariants as turn
use Rattle.conn_script.specs.declared.wants.HubAnswer.{HubAnswer}
use Rattle.conn_script.specs.declared.wants.HubAnswer.TheVariants as answers
use Rattle.conn_script.specs.declared.wants.HubCall.{HubCall}
use Rattle.conn_script.specs.declared.wants.HubCall.TheVariants as calls
use Rattle.conn_script.specs.Responses.{hub_spent, bytes_of}
use Rattle.conn_script.specs.NewSession.{SpentStart, spent_at, AskLacks}
use Rattle.conn_script.specs.Wanted.{Wanted, to_call, call_of, call_step, call_tokens, kind_of, Kind, FitsKind, NeedsRoom, Keeps, answer_to}
use Rattle.conn_script.specs.Turns.{responded_last}
use Rattle.conn_script.specs.Creating.{EnqueuedStops, want_of, StartMoves, StartTurns, StartLeads, IsOverNow, kind_or_other}
use Rattle.conn_script.specs.Running.{IsTaken, IsTakenOfStart, RunFollows, start_awaits, start_held}
use Rattle.conn_script.specs.Work.{rounds_work}
use Rattle.conn_script.specs.Moving.{IsReady}

-- ---- calls that are taken

pub taken : (t : Ticket) (old new : Carry) (of : carrying.Kind) (call : HubCall) → Takes old of new →
    start_awaits (Some of) ≡ answer_to (kind_of (call_of call)) →
    (carry_tokens old ++ of_ticket t ∷ []) ≡ (call_tokens (call_of call) ++ (carry_tokens new ++ of_ticket t ∷ [])) →
    OfEach old (λ r place steps. wanted_at r place ≡ places.to_call (call_of call)) →
    IsTakenOfStart t old call (run.Creating (creating.Starting t new))
taken t old new of call takes waits keeps told = record {
  waits = λ f aim w h. ap start_awaits takes.waits ∙ waits;
  keeps = keeps;
  wants = λ f aim w h. (
    subst (λ (z : places.Wanted). want_of z w) (told h.0 h.3 h.1 h.4) h.5,
    (h.0, h.1, h.2, h.3, takes.stands h.0 h.3 h.1 h.4, h.5),
  );
  leads = λ f aim w more response h p. p;
  stops = λ f w more p e. p;
  work_is = λ o. ap (λ (k : ℕ). rounds_work o + (4 + k)) takes.work_is;
}

pub bind_taken : (t : Ticket) (old new : Carry) (q : Reservation) (x : List ℕ) (cs : List Cap) → Takes old carrying.Bind new →
    OfEach old (λ r place steps. (r ≡ q) × (place ≡ at_bind x cs)) → carry_tokens old ≡ of_reservation q ∷ carry_tokens new →
    IsTakenOfStart t old (calls.Bind q x cs) (run.Creating (creating.Starting t new))
bind_taken t old new q x cs takes told tokens =
    taken t old new carrying.Bind (calls.Bind q x cs) takes refl (ap (λ (ts : List Token). ts ++ of_ticket t ∷ []) tokens)
    (λ r place steps st.
    let e = told r place steps st in
    ap (wanted_at r) e.1 ∙ ap (λ (k : Reservation). places.to_call (Call.bind k x cs)) e.0)

pub fail_taken : (t : Ticket) (old new : Carry) (q : Reservation) (why : FailWhy) → Takes old carrying.Fail new →
    OfEach old (λ r place steps. (r ≡ q) × (place ≡ at_fail why)) → carry_tokens old ≡ of_reservation q ∷ carry_tokens new →
    IsTakenOfStart t old (calls.Fail q why) (run.Creating (creating.Starting t new))
fail_taken t old new q why takes told tokens =
    taken t old new carrying.Fail (calls.Fail q why) takes refl (ap (λ (ts : List Token). ts ++ of_ticket t ∷ []) tokens)
    (λ r place steps st.
    let e = told r place steps st in
    ap (wanted_at r) e.1 ∙ ap (λ (k : Reservation). places.to_call (Call.fail k why)) e.0)

pub freed_taken : (t : Ticket) (old new : Carry) (closing : Closing) → Takes old carrying.Freed new →
    OfEach old (λ r place steps. place ≡ at_free closing) → carry_tokens old ≡ of_closing closing ∷ carry_tokens new →
    IsTakenOfStart t old (calls.Freed closing) (run.Creating (creating.Starting t new))
freed_taken t old new closing takes told tokens =
    taken t old new carrying.Freed (calls.Freed closing) takes refl (ap (λ (ts : List Token). ts ++ of_ticket t ∷ []) tokens)
    (λ r place steps st. ap (wanted_at r) (told r place steps st))

none_there : (o : Option carrying.Kind) → o ≡ None → is_some o ≡ true → ⊥
none_there None e h = absurd cc
none_there (Some k) e h = absurd cc

-- a start of which a call may be taken neither asks a node nor is over
pub not_asking : (carry : Carry) (want : CarryWant) (address : List ℕ) (request : NodeRequest) → HandsOut carry want → want ≡ asks.Node address request →
    is_some (held carry) ≡ true → ⊥
not_asking carry want address request hands is there =
    none_there (held carry) (subst (λ (z : CarryWant). Readies carry z) is hands.readies).1 there

pub not_done : (carry : Carry) (want : CarryWant) (e : CarryEnd) → HandsOut carry want → want ≡ asks.Done e → is_some (held carry) ≡ true → ⊥
not_done carry want e hands is there = none_there (held carry) (subst (λ (z : CarryWant). Readies carry z) is hands.readies).1 there

pub start_there : (fresh : Bool) (o : Option carrying.Kind) → is_some (start_held fresh o) ≡ true → (fresh ≡ true) × (is_some o ≡ true)
start_there false o h = absurd cc
start_there true None h = absurd cc
start_there true (Some k) h = (refl, refl)

pub enqueue_taken : (choices : List (List Cap)) → IsTaken (run.Creating (creating.Enqueue choices)) (calls.Enqueue choices) (run.Creating creating.Enqueuing)
enqueue_taken choices = record {
  waits = λ f aim w h. refl;
  keeps = refl;
  wants = λ f aim w h. (h.1, (h.0, choices, h.1));
  leads = λ f aim w more response h p.
      subst (λ (z : Wanted). RunFollows f (run.Creating creating.Enqueuing) aim z more response) h.1 p;
  stops = λ f w more p e. by_want f w more e p;
  work_is = λ o. refl;
}
  where
    by_want : (f : Request) (w : Wanted) (more : List Step) → w ≡ to_call (Call.enqueue choices) →
        EnqueuedStops w more → AskLacks choices more
    by_want f w more e p = subst (λ (z : Wanted). EnqueuedStops z more) e p

pub poll_taken : (t : Ticket) (n : ℕ) → n ≡ t.request → IsTaken (run.Creating (creating.Poll t)) (calls.Poll t) (run.Creating (creating.Polling n))
poll_taken t n is = record {
  waits = λ f aim w h. refl;
  keeps = refl;
  wants = λ f aim w h. (h.1, (h.0, t, h.1, sym is));
  leads = λ f aim w more response h p.
      subst (λ (z : Wanted). RunFollows f (run.Creating (creating.Polling n)) aim z more response) h.1 p;
  stops = λ f w more p e. p;
  work_is = λ o. refl;
}

-- ---- the end of a start

over_at : (e : CarryEnd) (r : Reservation) (place : Place) (steps : List Step) → wanted_at r place ≡ places.over e → FinishedAt place r steps →
    Start r steps × (gives_up_at place ≡ false)
over_at e r at_start steps h f = absurd cc
over_at e r (at_bind x cs) steps h f = absurd cc
over_at e r (at_return x) steps h f = absurd cc
over_at e r (at_fail v) steps h f = absurd cc
over_at e r (at_quit c) steps h f = absurd cc
over_at e r (at_free c) steps h f = absurd cc
over_at e r (at_end d) steps h f = (f.start, refl)

pub start_over : (carry : Carry) (want : CarryWant) (e : CarryEnd) → HandsOut carry want → want ≡ asks.Done e → IsOverNow carry true
start_over carry want e hands is = λ r place so_far st.
    let t = hands.tells r place so_far st in
    over_at e r place so_far (subst (λ (z : CarryWant). places.Shows z (wanted_at r place)) is t.shows) t.finished

pub nothing_left : (carry : Carry) (want : CarryWant) (e : CarryEnd) → HandsOut carry want → want ≡ asks.Done e → carry_tokens carry ≡ []
nothing_left carry want e hands is = (subst (λ (z : CarryWant). Readies carry z) is hands.readies).2

or_there : (a b : Bool) → b ≡ true → (a || b) ≡ true
or_there true b e = refl
or_there false b e = e

pub start_open : (carry : Carry) (want : CarryWant) → Readies carry want → ((e : CarryEnd) → want ≢ asks.Done e) →
    (is_some (awaited carry) || is_some (held carry)) ≡ true
start_open carry (asks.Node address request) h n = ap (λ (o : Option carrying.Kind). is_some o || is_some (held carry)) h.0
start_open carry asks.Bind h n = or_there (is_some (awaited carry)) (is_some (held carry)) (ap is_some h.0)
start_open carry asks.Fail h n = or_there (is_some (awaited carry)) (is_some (held carry)) (ap is_some h.0)
start_open carry asks.Freed h n = or_there (is_some (awaited carry)) (is_some (held carry)) (ap is_some h.0)
start_open carry (asks.Done e) h n = absurd (n e refl)

-- ---- answers to a start

or_false : (b : Bool) → (b || false) ≡ b
or_false true = refl
or_false false = refl

pub told_over : (t : Ticket) (old new : Carry) (answer : CarryAnswer) (short : Bool) → Feeds old answer new → IsOverNow new true →
    OfEach new (λ r place steps. short ≡ (met_want steps || gives_up_at place)) → StartMoves t old answer (turn.Go (run.Creating (creating.Poll t)) short)
told_over t old new answer short feeds over told = λ r place so_far at st fits.
    let m = feeds.moved r place so_far at st fits in
    let by_now : List Step = so_far ++ made answer (wanted_at r place) at in
    let o = over r m.to by_now m.stands in
    (refl, o.0, told r m.to by_now m.stands ∙ ap (λ (b : Bool). met_want by_now || b) o.1 ∙ or_false (met_want by_now))

pub told_open : (t : Ticket) (old new : Carry) (answer : CarryAnswer) → Feeds old answer new → IsOverNow new false →
    StartMoves t old answer (turn.Go (run.Creating (creating.Starting t new)) false)
told_open t old new answer feeds over = λ r place so_far at st fits.
    let m = feeds.moved r place so_far at st fits in
    (refl, m.to, m.stands, over r m.to (so_far ++ made answer (wanted_at r place) at) m.stands, feeds.fresh, refl)

pub over_ready : (t : Ticket) (old new : Carry) (answer : CarryAnswer) (short : Bool) → Feeds old answer new → carry_tokens new ≡ [] →
    IsReady (turn.Go (run.Creating (creating.Poll t)) short) ((told_tokens answer ++ carry_tokens old) ++ of_ticket t ∷ [])
over_ready t old new answer short feeds none = record {
  fresh = refl;
  holds = ap (λ (ts : List Token). ts ++ of_ticket t ∷ []) (sym none ∙ feeds.tokens);
}

both_there : (a b : Bool) → a ≡ true → b ≡ true → (a && b) ≡ true
both_there true true e h = refl
both_there true false e h = absurd cc
both_there false b e h = absurd cc

pub open_ready : (t : Ticket) (old new : Carry) (answer : CarryAnswer) → Feeds old answer new → (is_some (awaited new) || is_some (held new)) ≡ true →
    IsReady (turn.Go (run.Creating (creating.Starting t new)) false) ((told_tokens answer ++ carry_tokens old) ++ of_ticket t ∷ [])
open_ready t old new answer feeds some = record {
  fresh = both_there (is_fresh new) (is_some (awaited new) || is_some (held new)) feeds.fresh some;
  holds = ap (λ (ts : List Token). ts ++ of_ticket t ∷ []) feeds.tokens;
}

-- ---- answers of the hub

pub awaits_bind : (o : Option carrying.Kind) → kind_or_other o ≡ Kind.bind → o ≡ Some carrying.Bind
awaits_bind None e = absurd cc
awaits_bind (Some carrying.Exchange) e = absurd cc
awaits_bind (Some carrying.Bind) e = refl
awaits_bind (Some carrying.Fail) e = absurd cc
awaits_bind (Some carrying.Freed) e = absurd cc

pub awaits_fail : (o : Option carrying.Kind) → kind_or_other o ≡ Kind.fail → o ≡ Some carrying.Fail
awaits_fail None e = absurd cc
awaits_fail (Some carrying.Exchange) e = absurd cc
awaits_fail (Some carrying.Bind) e = absurd cc
awaits_fail (Some carrying.Fail) e = refl
awaits_fail (Some carrying.Freed) e = absurd cc

pub awaits_freed : (o : Option carrying.Kind) → kind_or_other o ≡ Kind.freed → o ≡ Some carrying.Freed
awaits_freed None e = absurd cc
awaits_freed (Some carrying.Exchange) e = absurd cc
awaits_freed (Some carrying.Bind) e = absurd cc
awaits_freed (Some carrying.Fail) e = absurd cc
awaits_freed (Some carrying.Freed) e = refl

call_of_bind : (b : Binding) (call : Call) → kind_of call ≡ Kind.bind → Keeps (answers.Bind b) call → FitsBind b (places.to_call call)
call_of_bind b (Call.bind r session caps) e keeps = keeps
call_of_bind b (Call.register node) e keeps = absurd cc
call_of_bind b (Call.beat node name) e keeps = absurd cc
call_of_bind b (Call.drain node) e keeps = absurd cc
call_of_bind b (Call.remove node) e keeps = absurd cc
call_of_bind b (Call.enqueue choices) e keeps = absurd cc
call_of_bind b (Call.poll t) e keeps = absurd cc
call_of_bind b (Call.withdraw t) e keeps = absurd cc
call_of_bind b Call.dispatch e keeps = absurd cc
call_of_bind b (Call.fail r why) e keeps = absurd cc
call_of_bind b (Call.lookup session) e keeps = absurd cc
call_of_bind b (Call.touch session binding) e keeps = absurd cc
call_of_bind b (Call.end session binding) e keeps = absurd cc
call_of_bind b (Call.freed c) e keeps = absurd cc
call_of_bind b Call.sweep e keeps = absurd cc
call_of_bind b Call.expire e keeps = absurd cc
call_of_bind b Call.clear e keeps = absurd cc
call_of_bind b Call.view e keeps = absurd cc

call_of_fail : (call : Call) → kind_of call ≡ Kind.fail → IsFail (places.to_call call)
call_of_fail (Call.fail r why) e = tt
call_of_fail (Call.register node) e = absurd cc
call_of_fail (Call.beat node name) e = absurd cc
call_of_fail (Call.drain node) e = absurd cc
call_of_fail (Call.remove node) e = absurd cc
call_of_fail (Call.enqueue choices) e = absurd cc
call_of_fail (Call.poll t) e = absurd cc
call_of_fail (Call.withdraw t) e = absurd cc
call_of_fail Call.dispatch e = absurd cc
call_of_fail (Call.bind r session caps) e = absurd cc
call_of_fail (Call.lookup session) e = absurd cc
call_of_fail (Call.touch session binding) e = absurd cc
call_of_fail (Call.end session binding) e = absurd cc
call_of_fail (Call.freed c) e = absurd cc
call_of_fail Call.sweep e = absurd cc
call_of_fail Call.expire e = absurd cc
call_of_fail Call.clear e = absurd cc
call_of_fail Call.view e = absurd cc

call_of_freed : (call : Call) → kind_of call ≡ Kind.freed → IsFreed (places.to_call call)
call_of_freed (Call.freed c) e = tt
call_of_freed (Call.register node) e = absurd cc
call_of_freed (Call.beat node name) e = absurd cc
call_of_freed (Call.drain node) e = absurd cc
call_of_freed (Call.remove node) e = absurd cc
call_of_freed (Call.enqueue choices) e = absurd cc
call_of_freed (Call.poll t) e = absurd cc
call_of_freed (Call.withdraw t) e = absurd cc
call_of_freed Call.dispatch e = absurd cc
call_of_freed (Call.bind r session caps) e = absurd cc
call_of_freed (Call.fail r why) e = absurd cc
call_of_freed (Call.lookup session) e = absurd cc
call_of_freed (Call.touch session binding) e = absurd cc
call_of_freed (Call.end session binding) e = absurd cc
call_of_freed Call.sweep e = absurd cc
call_of_freed Call.expire e = absurd cc
call_of_freed Call.clear e = absurd cc
call_of_freed Call.view e = absurd cc

-- what an answer of the start's own leads to, as an answer of the hub
by_start : (t : Ticket) (carry : Carry) (hub : HubAnswer) (own : CarryAnswer) (next : Turn) →
    ((call : Call) (at : ℕ) → made own (places.to_call call) at ≡ call_step hub call at ∷ []) →
    ((call : Call) → FitsKind hub (kind_of call) → Keeps hub call → places.Fits own (places.to_call call)) →
    StartMoves t carry own next → StartTurns t carry hub next
by_start t carry hub own next step fits moves r place so_far call at st is kind keeps =
    subst (λ (xs : List Step). StartLeads t r (so_far ++ xs) next) (ap (λ (w : places.Wanted). made own w at) is ∙ step call at)
    (moves r place so_far at st (subst (λ (w : places.Wanted). places.Fits own w) (sym is) (fits call kind keeps)))

pub bind_answered : (t : Ticket) (carry : Carry) (b : Binding) (next : Turn) → StartMoves t carry (carried.Bound b) next → StartTurns t carry (answers.Bind b) next
bind_answered t carry b next moves =
    by_start t carry (answers.Bind b) (carried.Bound b) next (λ call at. refl) (λ call kind keeps. call_of_bind b call kind keeps) moves

pub fail_answered : (t : Ticket) (carry : Carry) (f : Failing) (next : Turn) → StartMoves t carry (carried.Failed f) next → StartTurns t carry (answers.Fail f) next
fail_answered t carry f next moves =
    by_start t carry (answers.Fail f) (carried.Failed f) next (λ call at. refl) (λ call kind keeps. call_of_fail call kind) moves

pub freed_answered : (t : Ticket) (carry : Carry) (next : Turn) → StartMoves t carry carried.Freed next → StartTurns t carry answers.Freed next
freed_answered t carry next moves =
    by_start t carry answers.Freed carried.Freed next (λ call at. refl) (λ call kind keeps. call_of_freed call kind) moves

-- a call that gives up for want of memory is at the place that does
same_lack : (r : Reservation) (place : Place) (call : Call) → wanted_at r place ≡ places.to_call call → gives_up_at place ≡ gives_up call
same_lack r at_start call e = absurd cc
same_lack r (at_bind x cs) call e = let same : Call.bind r x cs ≡ call = cc in ap gives_up same
same_lack r (at_return x) call e = absurd cc
same_lack r (at_fail why) call e = let same : Call.fail r why ≡ call = cc in ap gives_up same
same_lack r (at_quit c) call e = absurd cc
same_lack r (at_free c) call e = let same : Call.freed c ≡ call = cc in ap gives_up same
same_lack r (at_end d) call e = absurd cc

pub spent_answered : (t : Ticket) (carry : Carry) (hub : HubAnswer) (short : Bool) (made_text : Result (List ℕ) NoMemory) →
    ((call : Call) (at : ℕ) → call_step hub call at ≡ Spent call at) →
    OfEach carry (λ r place steps. short ≡ (met_want steps || gives_up_at place)) →
    IfOk made_text (λ bytes. bytes ≡ bytes_of hub_spent false) → StartTurns t carry hub (responded_last made_text short)
spent_answered t carry hub short made_text step told built r place so_far call at st is kind keeps =
    subst (λ (s : Step). StartLeads t r (so_far ++ s ∷ []) (responded_last made_text short)) (sym (step call at)) (by_text made_text built)
  where
    spends : SpentStart r (so_far ++ Spent call at ∷ [])
    spends = spent_at so_far place call at (stands_leads carry r place so_far st) is

    by_text : (text : Result (List ℕ) NoMemory) → IfOk text (λ bytes. bytes ≡ bytes_of hub_spent false) →
        StartLeads t r (so_far ++ Spent call at ∷ []) (responded_last text short)
    by_text (Ok bytes) h = (
      spends,
      h,
      told r place so_far st ∙ ap (λ (b : Bool). met_want so_far || b) (same_lack r place call is ∙ sym (or_false (gives_up call)))
          ∙ sym (list_any-append step_lacks so_far (Spent call at ∷ [])),
    )
    by_text (Err e) h = spends

pub spent_ready : (text : Result (List ℕ) NoMemory) (short : Bool) → IsReady (responded_last text short) []
spent_ready (Ok bytes) short = record { fresh = refl; holds = refl }
spent_ready (Err e) short = record { fresh = refl; holds = refl }

-- ---- no other answer comes to a start

abbrev is_start_kind : Kind → Bool
is_start_kind Kind.bind = true
is_start_kind Kind.fail = true
is_start_kind Kind.freed = true
is_start_kind Kind.other = true
is_start_kind k = false

start_kind : (o : Option carrying.Kind) → is_start_kind (kind_or_other o) ≡ true
start_kind None = refl
start_kind (Some carrying.Exchange) = refl
start_kind (Some carrying.Bind) = refl
start_kind (Some carrying.Fail) = refl
start_kind (Some carrying.Freed) = refl

other_kind : (o : Option carrying.Kind) (k : Kind) → kind_or_other o ≡ k → is_start_kind k ≡ false → ⊥
other_kind o k e h = let never : true ≡ false = sym (start_kind o) ∙ ap is_start_kind e ∙ h in absurd cc

no_room_there : (o : Option carrying.Kind) → NeedsRoom (kind_or_other o) → ⊥
no_room_there None h = h
no_room_there (Some carrying.Exchange) h = h
no_room_there (Some carrying.Bind) h = h
no_room_there (Some carrying.Fail) h = h
no_room_there (Some carrying.Freed) h = h

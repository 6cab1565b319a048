-- What an answer adds to what a connection stands for.
use Rattle.std.proofs.Common.{◌≡◌, ◌≢◌, ℕ, ◌+◌, ◌-◌, ◌<◌, ◌≤◌, min, Bool, true, false, List, [], ◌++◌, length, take, drop, refl, sym, ap, ◌∙◌, subst, arith, append-nil, append_assoc, length-append, length-drop, inl, inr}
use Rattle.std.specs.Borrow.{Bor}
use Rattle.std.specs.Prelude.{Option, Ok, Err}
use Rattle.std.proofs.lemmas.List.{nil_from_length, take-take}
use Rattle.httparse.specs.Grammar.{RequestHead}
use Rattle.http_frames.specs.declared.frames.TheConstants.{LIMITS}
use Rattle.http_frames.specs.declared.frames.FrameLimits.{FrameLimits}
use Rattle.http_frames.specs.Frames.{Request, IsAccepted, expects}
use Rattle.node_client.specs.Held.{Token}
use Rattle.node_client.specs.Steps.{Step}
use Rattle.conn_script.specs.declared.wants.Answer.{Answer}
use Rattle.conn_script.specs.declared.wants.Answer.TheVariants as told
use Rattle.conn_script.specs.declared.wants.End.TheVariants as ends
use Rattle.conn_script.specs.declared.wants.ConnFault.{ConnFault}
use Rattle.conn_script.specs.declared.wants.ConnFault.TheVariants as faults
use Rattle.conn_script.specs.declared.wants.TheConstants.{LIMIT, PIECE}
use Rattle.conn_script.specs.declared.turn.Run.{Run}
use Rattle.conn_script.specs.declared.turn.Turn.{Turn}
use Rattle.conn_script.specs.declared.undoing.Undoing.{Undoing}
use Rattle.conn_script.specs.Begin.{Begun}
use Rattle.conn_script.specs.Responses.{continue_text}
use Rattle.conn_script.specs.Wanted.{Wanted, Fits, Made, bytes_in, taken_of, told_tokens}
use Rattle.conn_script.specs.Moving.{Moves, Leaves, turn_tokens}
use Rattle.conn_script.specs.declared.undoing.Undoing.TheVariants as undo
use Rattle.conn_script.specs.Undo.{UndoMoves, UndoLeads, UndoFollows, WaitsBehind}
use Rattle.conn_script.specs.Responses.{left as no_response}
use Rattle.hub_conn.specs.declared.inbox.Inbox.{Inbox}
use Rattle.hub_conn.specs.declared.talk.Talk.{Talk}
use Rattle.hub_conn.specs.declared.talk.State.{State}
use Rattle.hub_conn.specs.declared.talk.State.TheVariants as states
use Rattle.hub_conn.specs.declared.talk.Outgoing.{Outgoing}
use Rattle.hub_conn.specs.declared.talk.Then.{Then}
use Rattle.hub_conn.specs.declared.talk.Then.TheVariants as after
use Rattle.hub_conn.specs.Conversation.{Waits, Finished, MemoryBroke}
use Rattle.hub_conn.specs.Inbox.{unread, Holds, HoldsSome, HoldsWhole}
use Rattle.conn_script.specs.Work.{Outlook, turn_work, queue_work}
use Rattle.hub_conn.specs.Work.{bytes_left, FeedsLess, LeavesAtMost, LeavesUndoing, TurnsTo, SendsSome, ContinuesSome}
use Rattle.hub_conn.specs.Talk.{Rests, StandsForSome, IsAnswerable, HoldsNext, IsWriting, Answered, Standing, IsBetween, IsTurned, GoesOn, HasUndone, Feeds, Settles, SettlesUndoing, WaitsRightly, Cause, of_read, of_write, of_end, of_nothing, cause_of, cause_after, blamed, state_cause, tokens, state_tokens, Stands, StandsNow, awaited, state_awaits, BreaksOff, SendsBy, ContinuesBy, state_relays, HasLeft, writes_bytes, TurnWrites}
use Rattle.hub_conn.proofs.PassLemmas.{few_plain, few_turn, sent_stays, none_stays, other_stays}
use Rattle.hub_conn.proofs.ReadLemmas.{WholeStays, WholeTakes, reads_grow}
use Rattle.hub_conn.proofs.StateLemmas.{in_state_of, done_stands, leaves_in}
use Rattle.hub_conn.proofs.WantLemmas.{ends_last}
use Rattle.hub_conn.proofs.WorkLemmas.{done_less, reading_some_work, continuing_some_work, sent_feeds, continued_feeds, broken_less, begun_less, turn_less, undo_feeds, gone_less}
use Rattle.hub_conn.proofs.EndLemmas.{NoneAccepted, memory_broke, unended, talked_closed, talked_cut, read_on_of}
use Rattle.hub_conn.proofs.GoLemmas.{turned_of, turned_first, left_off}
use Rattle.hub_conn.proofs.WriteLemmas.{writes_kept, continue_breaks, continuing_kept}
use Rattle.hub_conn.proofs.AwaitLemmas.{no_count_run, no_count_undo, reading_only, awaits_at, wait_relays_none}
use Rattle.std.proofs.lemmas.Bool.{cases_lt}
use Rattle.conn_script.specs.Routing.{FirstTurn}
use Rattle.conn_script.specs.Running.{RunFollows}
use Rattle.conn_script.specs.Pauses.{ends_early}
use Rattle.conn_script.specs.Wanted.{IsAwaited}

-- ---- in general

blamed_in : (talk : Talk) (s : State) → talk.state ≡ s → blamed talk ≡ state_cause s
unfolding blamed
blamed_in talk s e = ap state_cause e

tokens_in : (talk : Talk) (s : State) → talk.state ≡ s → tokens talk ≡ state_tokens s
unfolding tokens
tokens_in talk s e = ap state_tokens e

-- from a state without a cause and without tokens
pub feeds_plain : (old new : Talk) (answer : Answer) (s : State) (cause : Cause) → old.state ≡ s → state_cause s ≡ of_nothing → state_tokens s ≡ [] →
    state_relays s ≡ false → ((n : ℕ) → answer ≡ told.Wrote n → HasLeft old.state n → writes_bytes new ≡ writes_bytes old) →
    Settles new cause [] → cause_of answer ≡ cause → told_tokens answer ≡ [] → FeedsLess old answer new →
    ((own : Option (List ℕ)) (w : Wanted) (bytes : List ℕ) (steps : List Step) (written : List ℕ) (made : List Step) →
    Stands old own w bytes steps written → Fits answer w → Made own answer w made →
    StandsNow new own (bytes ++ bytes_in answer) (steps ++ made) (written ++ taken_of answer w)) →
    Feeds old answer new
feeds_plain old new answer s cause e free none apart stays settles cause_is brings less stands = record {
  fresh = settles.fresh;
  blames = settles.blames ∙ sym cause_is ∙ ap (λ (c : Cause). cause_after c answer) (sym (blamed_in old s e ∙ free));
  keeps = (
    (λ x. settles.holds ∙ sym (ap (λ (ts : List Token). ts ++ tokens old) brings ∙ tokens_in old s e ∙ none)),
    (λ x. settles.holds),
  );
  stays = λ n x. settles.stays;
  stands = stands;
  less = less;
  few = few_plain old new answer s e apart stays;
}

-- no step, and no byte
nothing_made : (new : Talk) (own : Option (List ℕ)) (bytes : List ℕ) (steps made : List Step) (written : List ℕ) → made ≡ [] → StandsNow new own bytes steps written →
    StandsNow new own bytes (steps ++ made) (written ++ [])
nothing_made new own bytes steps made written e x =
    subst (λ (s : List Step). StandsNow new own bytes (steps ++ s) (written ++ [])) (sym e)
    (subst (λ (s : List Step). StandsNow new own bytes s (written ++ [])) (sym (append-nil steps))
    (subst (λ (b : List ℕ). StandsNow new own bytes steps b) (sym (append-nil written)) x))

pub no_step : (new : Talk) (own : Option (List ℕ)) (bytes : List ℕ) (steps made : List Step) (written : List ℕ) → made ≡ [] → StandsNow new own bytes steps written →
    StandsNow new own bytes (steps ++ made) written
no_step new own bytes steps made written e x =
    subst (λ (s : List Step). StandsNow new own bytes (steps ++ s) written) (sym e)
    (subst (λ (s : List Step). StandsNow new own bytes s written) (sym (append-nil steps)) x)

no_bytes : (new : Talk) (own : Option (List ℕ)) (bytes : List ℕ) (steps : List Step) (written : List ℕ) → StandsNow new own bytes steps written →
    StandsNow new own (bytes ++ []) steps written
no_bytes new own bytes steps written x = subst (λ (b : List ℕ). StandsNow new own b steps written) (sym (append-nil bytes)) x

no_more_written : (new : Talk) (own : Option (List ℕ)) (bytes : List ℕ) (steps : List Step) (written : List ℕ) → StandsNow new own bytes steps written →
    StandsNow new own bytes steps (written ++ [])
no_more_written new own bytes steps written x = subst (λ (b : List ℕ). StandsNow new own bytes steps b) (sym (append-nil written)) x

-- ---- a piece

least_of_two : (n a b : ℕ) → n ≤ min a b → (n ≤ a) × (n ≤ b)
least_of_two n a b x = elim (cases_lt a b) [
  | inl l ↦ (omega (arith, x, l), omega (arith, x, l))
  | inr l ↦ (omega (arith, x, l), omega (arith, x, l))
]

pub reading_some : (talk : Talk) → talk.state ≡ states.Reading → StandsForSome talk → HoldsSome talk.inbox
reading_some talk e some =
    let x = in_state_of talk states.Reading some.0 some.1 some.2 some.3 some.4 e some.5 in (x.rest, x.in_state.3)

-- all bytes were read
pub reading_all : (talk : Talk) → talk.state ≡ states.Reading → StandsForSome talk → unread talk.inbox ≡ []
reading_all talk e some = (in_state_of talk states.Reading some.0 some.1 some.2 some.3 some.4 e some.5).in_state.8

abbrev pub OneHead : Type 0
OneHead = (limits : FrameLimits) (buf : List ℕ) (h k : RequestHead) → IsAccepted limits buf h → IsAccepted limits buf k → h ≡ k

abbrev pub HeadStays : Type 0
HeadStays = (limits : FrameLimits) (buf more : List ℕ) (h : RequestHead) → IsAccepted limits buf h → IsAccepted limits (buf ++ more) h

waits_grow : OneHead → HeadStays → (rest more : List ℕ) → Waits rest true → Waits (rest ++ more) true
waits_grow one stays rest more x =
    let h = x.only refl in
    let here : IsAccepted LIMITS (rest ++ more) h.0 = stays LIMITS rest more h.0 h.1 in record {
      accepted = λ k y. x.accepted h.0 h.1 ∙ ap (λ (j : RequestHead). expects LIMITS j) (one LIMITS (rest ++ more) h.0 k here y);
      only = λ so. (h.0, here);
    }

grown : WholeStays → (talk : Talk) (own : Option (List ℕ)) (bytes rest more : List ℕ) (steps : List Step) (responses : List ℕ) →
    Answered own talk.frames bytes rest steps responses → Answered own talk.frames (bytes ++ more) (rest ++ more) steps responses
grown stays talk own bytes rest more steps responses x = record {
  requests = x.requests;
  reads = reads_grow stays bytes x.requests rest more x.reads;
  scripts = x.scripts;
  count = x.count;
}

-- it is there
pub came_between : WholeStays → OneHead → HeadStays → (old new : Talk) (more : List ℕ) (own : Option (List ℕ)) (w : Wanted) (bytes : List ℕ) (steps : List Step) (written : List ℕ) →
    Standing states.Reading old own w bytes steps written → ((rest : List ℕ) → Holds old.inbox rest → Holds new.inbox (rest ++ more)) →
    new.read ≡ old.read + length more → new.begins ≡ old.begins → new.frames ≡ old.frames → new.short ≡ old.short → new.continued ≡ old.continued →
    length more + old.read ≤ LIMIT → IsBetween new own (bytes ++ more) steps written
came_between stays one head old new more own w bytes steps written x holds read begins frames short continued room =
    let y = read_on_of old own w bytes steps written x in record {
      rest = x.rest ++ more;
      responses = y.responses;
      answered = subst (λ (k : ℕ). Answered own k (bytes ++ more) (x.rest ++ more) steps y.responses) (sym frames)
          (grown stays old own bytes x.rest more steps y.responses y.answered);
      holds = holds x.rest y.holds;
      waited = λ e. waits_grow one head x.rest more (subst (λ (b : Bool). Waits x.rest b) (sym continued ∙ e) y.waits);
      written_is = y.written_is ∙ ap (λ (b : Bool). y.responses ++ continue_text b) (sym continued);
      counts = record {
        read = omega (arith, read, x.counts.read, length-append bytes more);
        within = omega (arith, read, room);
        begins = omega (arith, read, begins, x.counts.begins, length-append x.rest more);
        few = omega (arith, frames, begins, x.counts.few);
      };
      short = short ∙ y.short;
    }

-- there is no memory for it
pub came_broke : WholeStays → OneHead → HeadStays → (old : Talk) (more : List ℕ) (own : Option (List ℕ)) (w : Wanted) (bytes : List ℕ) (steps : List Step) (written : List ℕ) →
    0 < length more → Standing states.Reading old own w bytes steps written → MemoryBroke own (bytes ++ more) steps written
came_broke stays one head old more own w bytes steps written some x =
    let y = read_on_of old own w bytes steps written x in
    memory_broke old own (bytes ++ more) (x.rest ++ more) steps y.responses written (grown stays old own bytes x.rest more steps y.responses y.answered)
    (omega (arith, some, length-append x.rest more)) (λ e. waits_grow one head x.rest more (subst (λ (b : Bool). Waits x.rest b) e y.waits)) y.written_is

pub feeds_came : WholeStays → OneHead → HeadStays → (old mid new : Talk) (p : Bor (List ℕ)) → old.state ≡ states.Reading → Settles new of_nothing [] →
    ((own : Option (List ℕ)) (bytes : List ℕ) (steps : List Step) (written : List ℕ) → IsBetween mid own bytes steps written → StandsNow new own bytes steps written) →
    ((rest : List ℕ) → Holds old.inbox rest → Holds mid.inbox (rest ++ p.now)) →
    mid.read ≡ old.read + length p.now → mid.begins ≡ old.begins → mid.frames ≡ old.frames → mid.short ≡ old.short → mid.continued ≡ old.continued →
    length p.now + old.read ≤ LIMIT → FeedsLess old (told.Bytes p) new → Feeds old (told.Bytes p) new
feeds_came stays one head old mid new p e settles looks holds read begins frames short continued room less =
    feeds_plain old new (told.Bytes p) states.Reading of_nothing e refl refl refl (none_stays old new states.Reading (told.Bytes p) e (λ n x. x)) settles refl refl less (λ own w bytes steps written made st fits made_is.
    let x = in_state_of old states.Reading own w bytes steps written e st in
    nothing_made new own (bytes ++ p.now) steps made written made_is
    (looks own (bytes ++ p.now) steps written
    (came_between stays one head old mid p.now own w bytes steps written x holds read begins frames short continued room)))

pub feeds_came_broke : WholeStays → OneHead → HeadStays → (old new : Talk) (p : Bor (List ℕ)) → old.state ≡ states.Reading → 0 < length p.now → Settles new of_nothing [] →
    new.state ≡ states.Done (Err faults.Memory) → Feeds old (told.Bytes p) new
feeds_came_broke stays one head old new p e some settles failed =
    feeds_plain old new (told.Bytes p) states.Reading of_nothing e refl refl refl (none_stays old new states.Reading (told.Bytes p) e (λ n x. x)) settles refl refl
    (done_less old new (told.Bytes p) states.Reading (Err faults.Memory) e failed (λ o. reading_some_work (bytes_left old))) (λ own w bytes steps written made st fits made_is.
    let x = in_state_of old states.Reading own w bytes steps written e st in
    nothing_made new own (bytes ++ p.now) steps made written made_is
    (done_stands new (Err faults.Memory) own (bytes ++ p.now) steps written failed (came_broke stays one head old p.now own w bytes steps written some x)))

pub piece_room : (talk : Talk) (p : Bor (List ℕ)) → IsAwaited (told.Bytes p) (awaited talk) → StandsForSome talk → length p.now + talk.read ≤ LIMIT
piece_room talk p x some =
    let reading = reading_only talk (told.Bytes p) tt x in
    let few : length p.now ≤ min PIECE (LIMIT - talk.read) = awaits_at talk states.Reading (told.Bytes p) reading x in
    let s = in_state_of talk states.Reading some.0 some.1 some.2 some.3 some.4 reading some.5 in
    room (length p.now) PIECE LIMIT talk.read few s.in_state.2
  where
    room : (n a l r : ℕ) → n ≤ min a (l - r) → r < l → n + r ≤ l
    room n a l r x y = elim (cases_lt a (l - r)) [
      | inl z ↦ omega (arith, x, y, z)
      | inr z ↦ omega (arith, x, y, z)
    ]

pub piece_fits : (talk : Talk) (p : Bor (List ℕ)) → IsAwaited (told.Bytes p) (awaited talk) → length p.now ≤ PIECE
piece_fits talk p x =
    let reading = reading_only talk (told.Bytes p) tt x in
    (least_of_two (length p.now) PIECE (LIMIT - talk.read) (awaits_at talk states.Reading (told.Bytes p) reading x)).0

-- ---- the end of the input

pub feeds_read_failed : WholeTakes → NoneAccepted → (old new : Talk) → old.state ≡ states.Reading → Settles new of_read [] → new.state ≡ states.Done (Err faults.Read) →
    Feeds old told.ReadFailed new
feeds_read_failed takes none old new e settles failed =
    feeds_plain old new told.ReadFailed states.Reading of_read e refl refl refl (none_stays old new states.Reading told.ReadFailed e (λ n x. x)) settles refl refl
    (done_less old new told.ReadFailed states.Reading (Err faults.Read) e failed (λ o. reading_some_work (bytes_left old))) (λ own w bytes steps written made st fits made_is.
    let x = in_state_of old states.Reading own w bytes steps written e st in
    no_bytes new own bytes (steps ++ made) (written ++ [])
    (nothing_made new own bytes steps made written made_is
    (done_stands new (Err faults.Read) own bytes steps written failed
    (inl (unended takes none old own bytes x.rest steps written (read_on_of old own w bytes steps written x) x.in_state.5 (omega (arith, x.in_state.2, x.counts.read)))))))

pub feeds_closed : WholeTakes → NoneAccepted → (old new : Talk) → old.state ≡ states.Reading → Settles new of_end [] → old.begins ≡ old.read →
    new.state ≡ states.Done (Ok (record { frames = old.frames; end = ends.Closed; short = old.short })) → Feeds old told.EndOfInput new
feeds_closed takes none old new e settles at ended =
    feeds_plain old new told.EndOfInput states.Reading of_end e refl refl refl (none_stays old new states.Reading told.EndOfInput e (λ n x. x)) settles refl refl
    (done_less old new told.EndOfInput states.Reading (Ok (record { frames = old.frames; end = ends.Closed; short = old.short })) e ended (λ o. reading_some_work (bytes_left old))) (λ own w bytes steps written made st fits made_is.
    let x = in_state_of old states.Reading own w bytes steps written e st in
    let empty : x.rest ≡ [] = nil_from_length x.rest (omega (arith, at, x.counts.begins)) in
    no_bytes new own bytes (steps ++ made) (written ++ [])
    (nothing_made new own bytes steps made written made_is
    (done_stands new (Ok (record { frames = old.frames; end = ends.Closed; short = old.short })) own bytes steps written ended
    (talked_closed takes none old own bytes x.rest steps written (read_on_of old own w bytes steps written x) empty (omega (arith, x.in_state.2, x.counts.read))))))

pub feeds_cut : WholeTakes → (old new : Talk) → old.state ≡ states.Reading → Settles new of_end [] → old.begins ≢ old.read →
    new.state ≡ states.Done (Ok (record { frames = old.frames; end = ends.Cut old.begins; short = old.short })) → Feeds old told.EndOfInput new
feeds_cut takes old new e settles other ended =
    feeds_plain old new told.EndOfInput states.Reading of_end e refl refl refl (none_stays old new states.Reading told.EndOfInput e (λ n x. x)) settles refl refl
    (done_less old new told.EndOfInput states.Reading (Ok (record { frames = old.frames; end = ends.Cut old.begins; short = old.short })) e ended
    (λ o. reading_some_work (bytes_left old))) (λ own w bytes steps written made st fits made_is.
    let x = in_state_of old states.Reading own w bytes steps written e st in
    no_bytes new own bytes (steps ++ made) (written ++ [])
    (nothing_made new own bytes steps made written made_is
    (done_stands new (Ok (record { frames = old.frames; end = ends.Cut old.begins; short = old.short })) own bytes steps written ended
    (talked_cut takes old own bytes x.rest steps written (read_on_of old own w bytes steps written x)
    (λ none. other (omega (arith, x.counts.begins, ap length none))) x.in_state.5 (omega (arith, x.in_state.2, x.counts.read))))))

pub holds_kept : (old new : Talk) → Rests old new → HoldsSome old.inbox → HoldsSome new.inbox
holds_kept old new rests x = subst (λ (i : Inbox). HoldsSome i) (sym rests.same.inbox) x

pub next_kept : (old new : Talk) (t : Then) → Rests old new → HoldsNext old t → HoldsNext new t
next_kept old new after.Next rests x = holds_kept old new rests x
next_kept old new (after.End end) rests x = x

pub answerable_kept : (old new : Talk) → Rests old new → IsAnswerable old → IsAnswerable new
answerable_kept old new rests (rest, f, holds, within, begins, few) = (
  rest,
  f,
  subst (λ (i : Inbox). HoldsWhole i rest f) (sym rests.same.inbox) holds,
  omega (arith, rests.same.read, within),
  omega (arith, rests.same.read, rests.same.begins, begins),
  omega (arith, rests.same.frames, rests.same.begins, few),
)

-- ---- an answer to a script

pub running_some : (talk : Talk) (run : Run) → talk.state ≡ states.Running run → StandsForSome talk → IsAnswerable talk
running_some talk run e some =
    let x = in_state_of talk (states.Running run) some.0 some.1 some.2 some.3 some.4 e some.5 in
    (x.rest, x.in_state.0, x.in_state.1.holds, x.counts.within, x.counts.begins, x.counts.few)

pub beginning_some : (talk : Talk) → talk.state ≡ states.Beginning → StandsForSome talk → IsAnswerable talk
beginning_some talk e some =
    let x = in_state_of talk states.Beginning some.0 some.1 some.2 some.3 some.4 e some.5 in
    (x.rest, x.in_state.1, x.in_state.2.holds, x.counts.within, x.counts.begins, x.counts.few)

pub continuing_some : (talk : Talk) (sent : ℕ) → talk.state ≡ states.Continuing sent → StandsForSome talk → HoldsSome talk.inbox × (sent < 25)
continuing_some talk sent e some =
    let x = in_state_of talk (states.Continuing sent) some.0 some.1 some.2 some.3 some.4 e some.5 in
    ((x.rest, x.in_state.3), x.in_state.2)

pub writing_some : (talk : Talk) (out : Outgoing) → talk.state ≡ states.Writing out → StandsForSome talk → HoldsNext talk out.then × (out.sent < length out.bytes)
writing_some talk out e some =
    let x = in_state_of talk (states.Writing out) some.0 some.1 some.2 some.3 some.4 e some.5 in
    (next_of out.then (some.4 ++ x.unsent) x.writing, omega (arith, x.some, ap length x.unsent_is, length-drop out.sent out.bytes))
  where
    next_of : (t : Then) (all : List ℕ) → IsWriting t talk some.0 some.2 some.3 all → HoldsNext talk t
    next_of after.Next all y = (y.0, y.2)
    next_of (after.End end) all y = y.1

pub feeds_turn : (old mid new : Talk) (run : Run) (answer : Answer) (t : Turn) → old.state ≡ states.Running run → Moves run answer old.closes t → Rests old mid →
    Settles new of_nothing (turn_tokens t) → GoesOn mid t new → cause_of answer ≡ of_nothing → bytes_in answer ≡ [] →
    ((w : Wanted) → taken_of answer w ≡ []) → TurnsTo mid t new → TurnWrites t new → Feeds old answer new
feeds_turn old mid new run answer t e moves rests settles goes cause_is no_piece no_write turns writes = record {
  fresh = settles.fresh;
  blames = settles.blames ∙ sym cause_is ∙ ap (λ (c : Cause). cause_after c answer) (sym (blamed_in old (states.Running run) e));
  keeps = (
    (λ x. settles.holds ∙ moves.keeps x ∙ ap (λ (ts : List Token). told_tokens answer ++ ts) (sym (tokens_in old (states.Running run) e))),
    (λ x. settles.holds ∙ moves.void x),
  );
  stays = λ n x. settles.stays;
  stands = λ own w bytes steps written made st fits made_is.
      let x = in_state_of old (states.Running run) own w bytes steps written e st in
      let turned : IsTurned mid own bytes (steps ++ made) written t =
      turned_of old mid run own w bytes steps written made t x rests (moves.leads own x.in_state.0 x.aim w made x.in_state.2.wants fits made_is) in
      subst (λ (b : List ℕ). StandsNow new own b (steps ++ made) (written ++ taken_of answer w)) (sym (ap (λ (p : List ℕ). bytes ++ p) no_piece ∙ append-nil bytes))
      (subst (λ (b : List ℕ). StandsNow new own bytes (steps ++ made) b) (sym (ap (λ (p : List ℕ). written ++ p) (no_write w) ∙ append-nil written))
      (goes own bytes (steps ++ made) written turned));
  less = turn_less old mid new run answer t e rests moves.less turns;
  few = few_turn old new run answer t e moves writes;
}

-- ---- an answer after a fault, while a request is withdrawn or a session is ended

-- whatever it leads to leads further
leads_on : (u : Undoing) (A B : List Step → Type 0) → ((more : List Step) → A more → B more) → UndoLeads u A → UndoLeads u B
leads_on undo.Over A B f x = f [] x
leads_on (undo.Withdraw t) A B f x = (x.0, x.1, (λ more y. f more (x.2 more y)))
leads_on undo.Withdrawing A B f x = (x.0, x.1, (λ more y. f more (x.2 more y)))
leads_on (undo.Waiting t) A B f x = (x.0, x.1, (λ more y. f more (x.2 more y)))
leads_on (undo.End s b) A B f x = (x.0, x.1, (λ more y. f more (x.2 more y)))
leads_on (undo.Ending s b) A B f x = (x.0, x.1, (λ more y. f more (x.2 more y)))
leads_on (undo.Quit c path) A B f x = (x.0, x.1, (λ more y. f more (x.2 more y)))
leads_on (undo.Free c) A B f x = (x.0, x.1, (λ more y. f more (x.2 more y)))
leads_on undo.Freeing A B f x = (x.0, x.1, (λ more y. f more (x.2 more y)))

waits_rightly : (u : Undoing) (steps made : List Step) → WaitsBehind u made → WaitsRightly u (steps ++ made)
waits_rightly (undo.Waiting t) steps made (v, at, e) = ends_last false steps made (ap ends_early e)
waits_rightly undo.Over steps made x = tt
waits_rightly (undo.Withdraw t) steps made x = tt
waits_rightly undo.Withdrawing steps made x = tt
waits_rightly (undo.End s b) steps made x = tt
waits_rightly (undo.Ending s b) steps made x = tt
waits_rightly (undo.Quit c path) steps made x = tt
waits_rightly (undo.Free c) steps made x = tt
waits_rightly undo.Freeing steps made x = tt

pub feeds_undo : (old new : Talk) (fault : ConnFault) (u v : Undoing) (answer : Answer) → old.state ≡ states.Undoing fault u → UndoMoves u answer v →
    SettlesUndoing new fault v → HasUndone fault v new → (of_nothing ≡ cause_of answer) → bytes_in answer ≡ [] →
    ((w : Wanted) → taken_of answer w ≡ []) → LeavesUndoing v new → Feeds old answer new
feeds_undo old new fault u v answer e moves settles undone cause_is no_piece no_write leaves = record {
  fresh = settles.fresh;
  blames = settles.blames ∙ kept (state_cause (states.Undoing fault u)) ∙ ap (λ (c : Cause). cause_after c answer) (sym (blamed_in old (states.Undoing fault u) e));
  keeps = (
    (λ x. settles.holds ∙ moves.keeps x ∙ ap (λ (ts : List Token). told_tokens answer ++ ts) (sym (tokens_in old (states.Undoing fault u) e))),
    (λ x. settles.holds ∙ moves.void x),
  );
  stays = λ n x. settles.leaves_so ∙ moves.stays (sym (leaves_in old (states.Undoing fault u) e) ∙ x);
  stands = λ own w bytes steps written made st fits made_is.
      let x = in_state_of old (states.Undoing fault u) own w bytes steps written e st in
      subst (λ (b : List ℕ). StandsNow new own b (steps ++ made) (written ++ taken_of answer w)) (sym (ap (λ (p : List ℕ). bytes ++ p) no_piece ∙ append-nil bytes))
      (subst (λ (b : List ℕ). StandsNow new own bytes (steps ++ made) b) (sym (ap (λ (p : List ℕ). written ++ p) (no_write w) ∙ append-nil written))
      (undone own bytes (steps ++ made) written (waits_rightly v steps made (moves.waits own w made x.wants fits made_is))
      (leads_on v (λ more. UndoFollows u w (made ++ more)) (λ more. Finished own (Err fault) bytes ((steps ++ made) ++ more) written)
      (λ more y. subst (λ (s : List Step). Finished own (Err fault) bytes s written) (sym (append_assoc steps made more)) (x.ends (made ++ more) y))
      (moves.leads own w made x.wants fits made_is))));
  less = undo_feeds old new fault u v answer e moves.less leaves;
  few = few_plain old new answer (states.Undoing fault u) e refl (none_stays old new (states.Undoing fault u) answer e (λ n x. x));
}
  where
    kept : (c : Cause) → c ≡ cause_after c answer
    kept of_nothing = cause_is
    kept of_read = refl
    kept of_write = refl
    kept of_end = refl

-- ---- a client that has left

pub feeds_gone : WholeStays → (old new : Talk) (run : Run) (u : Undoing) → old.state ≡ states.Running run → IsAwaited told.Gone (awaited old) → Leaves run u →
    SettlesUndoing new faults.Read u → HasUndone faults.Read u new → LeavesUndoing u new → Feeds old told.Gone new
feeds_gone whole old new run u e awaits leaves settles undone little = record {
  fresh = settles.fresh;
  blames = settles.blames ∙ ap (λ (c : Cause). cause_after c told.Gone) (sym (blamed_in old (states.Running run) e));
  keeps = (
    (λ x. settles.holds ∙ leaves.keeps ∙ sym (tokens_in old (states.Running run) e)),
    (λ x. absurd (never x)),
  );
  stays = λ n x. absurd (n refl);
  stands = λ own w bytes steps written made st fits made_is.
      let x = in_state_of old (states.Running run) own w bytes steps written e st in
      no_bytes new own bytes (steps ++ made) (written ++ [])
      (nothing_made new own bytes steps made written made_is
      (undone own bytes steps written
      (subst (λ (s : List Step). WaitsRightly u s) (append-nil steps) (waits_rightly u steps [] leaves.waits))
      (leads_on u (λ more. RunFollows x.in_state.0 run x.aim w more no_response) (λ more. Finished own (Err faults.Read) bytes (steps ++ more) written)
      (λ more y. inr (left_off whole old run own w bytes steps more written x y)) (leaves.leads x.in_state.0 x.aim w x.in_state.2.wants))));
  less = gone_less old new run u e leaves.less little;
  few = few_plain old new told.Gone (states.Running run) e (wait_relays_none run (awaits_at old (states.Running run) told.Gone e awaits))
      (none_stays old new (states.Running run) told.Gone e (λ n x. x));
}
  where
    never : false ≡ true → ⊥
    never z = cc

-- ---- a write

pub feeds_broken : (old mid new : Talk) (out : Outgoing) → old.state ≡ states.Writing out → Rests old mid → Settles new of_write [] → BreaksOff mid out new → LeavesAtMost 4 new →
    Feeds old told.WriteFailed new
feeds_broken old mid new out e rests settles breaks leaves =
    feeds_plain old new told.WriteFailed (states.Writing out) of_write e refl refl refl (other_stays old new told.WriteFailed (λ n is. cc)) settles refl refl (broken_less old new out e leaves) (λ own w bytes steps written made st fits made_is.
    let x = in_state_of old (states.Writing out) own w bytes steps written e st in
    no_bytes new own bytes (steps ++ made) (written ++ [])
    (nothing_made new own bytes steps made written made_is
    (breaks own w bytes steps written (writes_kept old mid out own w bytes steps written rests.same rests.short rests.continued x))))

-- of `100 Continue`
feeds_cut_off : (old new : Talk) (sent : ℕ) → old.state ≡ states.Continuing sent → Settles new of_write [] → new.state ≡ states.Done (Err faults.Write) → Feeds old told.WriteFailed new
feeds_cut_off old new sent e settles failed =
    feeds_plain old new told.WriteFailed (states.Continuing sent) of_write e refl refl refl (none_stays old new (states.Continuing sent) told.WriteFailed e (λ n x. x)) settles refl refl
    (done_less old new told.WriteFailed (states.Continuing sent) (Err faults.Write) e failed (λ o. continuing_some_work (bytes_left old) sent)) (λ own w bytes steps written made st fits made_is.
    let x = in_state_of old (states.Continuing sent) own w bytes steps written e st in
    no_bytes new own bytes (steps ++ made) (written ++ [])
    (nothing_made new own bytes steps made written made_is
    (done_stands new (Err faults.Write) own bytes steps written failed (continue_breaks old sent own w bytes steps written x))))

pub feeds_write_failed : (old new : Talk) → IsAwaited told.WriteFailed (awaited old) → ((out : Outgoing) → ¬ (old.state ≡ states.Writing out)) → Settles new of_write [] →
    new.state ≡ states.Done (Err faults.Write) → Feeds old told.WriteFailed new
unfolding awaited
feeds_write_failed old new awaits other settles failed = by_state old.state refl awaits
  where
    by_state : (s : State) → old.state ≡ s → IsAwaited told.WriteFailed (state_awaits s old.read) → Feeds old told.WriteFailed new
    by_state (states.Continuing sent) e a = feeds_cut_off old new sent e settles failed
    by_state (states.Writing out) e a = absurd (other out e)
    by_state states.Reading e a = absurd a
    by_state states.Beginning e a = absurd a
    by_state (states.Running run) e a = absurd (no_count_run run a)
    by_state (states.Undoing fault u) e a = absurd (no_count_undo u a)
    by_state (states.Done r) e a = absurd a

pub written_within : (talk : Talk) (out : Outgoing) (n : ℕ) → talk.state ≡ states.Writing out → IsAwaited (told.Wrote n) (awaited talk) → (n ≤ PIECE) × (n ≤ length out.bytes - out.sent)
written_within talk out n e x = least_of_two n PIECE (length out.bytes - out.sent) (awaits_at talk (states.Writing out) (told.Wrote n) e x)

pub feeds_sent : (old mid new : Talk) (out : Outgoing) (n : ℕ) → old.state ≡ states.Writing out → n ≤ PIECE → Rests old mid → Settles new of_nothing [] → SendsBy mid out n new → SendsSome mid out n new →
    (out.sent + n < length out.bytes → writes_bytes new ≡ length out.bytes) → Feeds old (told.Wrote n) new
feeds_sent old mid new out n e few rests settles sends some stays =
    feeds_plain old new (told.Wrote n) (states.Writing out) of_nothing e refl refl refl (sent_stays old new out n e stays) settles refl refl (sent_feeds old mid new out n e rests some) (λ own w bytes steps written made st fits made_is.
    let x = in_state_of old (states.Writing out) own w bytes steps written e st in
    let taken : taken_of (told.Wrote n) w ≡ take n (drop out.sent out.bytes) =
    ap (λ (z : Wanted). taken_of (told.Wrote n) z) x.wants ∙ take-take n PIECE x.unsent few ∙ ap (λ (t : List ℕ). take n t) x.unsent_is in
    no_bytes new own bytes (steps ++ made) (written ++ taken_of (told.Wrote n) w)
    (no_step new own bytes steps made (written ++ taken_of (told.Wrote n) w) made_is
    (subst (λ (t : List ℕ). StandsNow new own bytes steps (written ++ t)) (sym taken)
    (sends own w bytes steps written (writes_kept old mid out own w bytes steps written rests.same rests.short rests.continued x)))))

pub feeds_continued : (old mid new : Talk) (sent n : ℕ) → old.state ≡ states.Continuing sent → Rests old mid → Settles new of_nothing [] → ContinuesBy mid sent n new → ContinuesSome mid sent n new →
    Feeds old (told.Wrote n) new
feeds_continued old mid new sent n e rests settles goes some =
    feeds_plain old new (told.Wrote n) (states.Continuing sent) of_nothing e refl refl refl (none_stays old new (states.Continuing sent) (told.Wrote n) e (λ m x. x)) settles refl refl (continued_feeds old mid new sent n e rests some) (λ own w bytes steps written made st fits made_is.
    let x = in_state_of old (states.Continuing sent) own w bytes steps written e st in
    let taken : taken_of (told.Wrote n) w ≡ take n (drop sent (continue_text true)) =
    ap (λ (z : Wanted). taken_of (told.Wrote n) z) x.in_state.1 in
    no_bytes new own bytes (steps ++ made) (written ++ taken_of (told.Wrote n) w)
    (no_step new own bytes steps made (written ++ taken_of (told.Wrote n) w) made_is
    (subst (λ (t : List ℕ). StandsNow new own bytes steps (written ++ t)) (sym taken)
    (goes own w bytes steps written (continuing_kept old mid sent own w bytes steps written rests x)))))

-- ---- what goes before a request was done

pub feeds_begun : (old mid new : Talk) (t : Turn) → old.state ≡ states.Beginning → Rests old mid → Settles new of_nothing [] → GoesOn mid t new →
    ((rest : List ℕ) (f : Request) → HoldsWhole old.inbox rest f → FirstTurn f t old.closes) → ((o : Outlook) → turn_work t o ≤ queue_work) → TurnsTo mid t new →
    Feeds old told.Begun new
feeds_begun old mid new t e rests settles goes first few turns =
    feeds_plain old new told.Begun states.Beginning of_nothing e refl refl refl (none_stays old new states.Beginning told.Begun e (λ n x. x)) settles refl refl (begun_less old mid new t e rests few turns) (λ own w bytes steps written made st fits made_is.
    let x = in_state_of old states.Beginning own w bytes steps written e st in
    let begun : Begun own made = subst (λ (z : Wanted). Made own told.Begun z made) x.in_state.3 made_is in
    no_bytes new own bytes (steps ++ made) (written ++ [])
    (no_more_written new own bytes (steps ++ made) written
    (goes own bytes (steps ++ made) written
    (turned_first old mid own w bytes steps written made t x rests begun (first x.rest x.in_state.1 x.in_state.2.holds)))))

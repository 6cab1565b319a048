-- What a script and what is done after a fault wait for: an answer of the hub, what came of an exchange, or the end of a pause.
use Rattle.std.proofs.Common.{◌≡◌, ℕ, ◌-◌, min, length, true, false, refl, sym, ap, ◌∙◌, subst}
use Rattle.std.specs.Prelude.{Option, None, Some}
use Rattle.node_client.specs.Carrying as carrying
use Rattle.conn_script.specs.declared.calling.Calling.TheVariants as calling
use Rattle.conn_script.specs.declared.deleting.Deleting.{Deleting}
use Rattle.conn_script.specs.declared.deleting.Deleting.TheVariants as deleting
use Rattle.conn_script.specs.declared.relaying.Relaying.{Relaying}
use Rattle.conn_script.specs.declared.relaying.Relaying.TheVariants as relaying
use Rattle.conn_script.specs.declared.creating.Creating.{Creating}
use Rattle.conn_script.specs.declared.creating.Creating.TheVariants as creating
use Rattle.conn_script.specs.declared.turn.Run.{Run}
use Rattle.conn_script.specs.declared.turn.Run.TheVariants as run
use Rattle.conn_script.specs.declared.undoing.Undoing.{Undoing}
use Rattle.conn_script.specs.declared.undoing.Undoing.TheVariants as undo
use Rattle.conn_script.specs.declared.wants.Answer.{Answer}
use Rattle.conn_script.specs.declared.wants.Answer.TheVariants as told
use Rattle.conn_script.specs.Wanted.{Awaited, piece, count, begun, answer_to, came, pause_end, wait_end, nothing, is_wait, IsAwaited}
use Rattle.conn_script.specs.Running.{run_awaits, delete_awaits, relay_awaits, create_awaits, start_awaits}
use Rattle.conn_script.specs.Undo.{undo_awaits}
use Rattle.conn_script.specs.declared.wants.ConnFault.{ConnFault}
use Rattle.conn_script.specs.declared.wants.TheConstants.{LIMIT, PIECE}
use Rattle.hub_conn.specs.declared.talk.Talk.{Talk}
use Rattle.hub_conn.specs.declared.talk.Outgoing.{Outgoing}
use Rattle.hub_conn.specs.declared.talk.State.{State}
use Rattle.hub_conn.specs.declared.talk.State.TheVariants as states
use Rattle.hub_conn.specs.Talk.{awaited, state_awaits, run_relays}

-- such an answer is none of them
abbrev pub IsOutside : Answer → Type 0
IsOutside (told.Wrote n) = Unit {0}
IsOutside told.WriteFailed = Unit {0}
IsOutside answer = ⊥

abbrev pub IsScripts : Awaited → Type 0
IsScripts (answer_to k) = Unit {0}
IsScripts came = Unit {0}
IsScripts pause_end = Unit {0}
IsScripts wait_end = Unit {0}
IsScripts nothing = Unit {0}
IsScripts w = ⊥

outside : (a : Answer) (w : Awaited) → IsOutside a → IsScripts w → IsAwaited a w → ⊥
outside (told.Wrote n) (answer_to k) o s x = x
outside (told.Wrote n) came o s x = x
outside (told.Wrote n) pause_end o s x = x
outside (told.Wrote n) wait_end o s x = x
outside (told.Wrote n) nothing o s x = x
outside told.WriteFailed (answer_to k) o s x = x
outside told.WriteFailed came o s x = x
outside told.WriteFailed pause_end o s x = x
outside told.WriteFailed wait_end o s x = x
outside told.WriteFailed nothing o s x = x
outside (told.Wrote n) (piece m) o s x = absurd s
outside (told.Wrote n) (count m) o s x = absurd s
outside (told.Wrote n) begun o s x = absurd s
outside told.WriteFailed (piece m) o s x = absurd s
outside told.WriteFailed (count m) o s x = absurd s
outside told.WriteFailed begun o s x = absurd s
outside (told.Bytes b) w o s x = absurd o
outside told.EndOfInput w o s x = absurd o
outside told.ReadFailed w o s x = absurd o
outside told.Begun w o s x = absurd o
outside (told.Hub h) w o s x = absurd o
outside (told.Node r) w o s x = absurd o
outside told.Paused w o s x = absurd o
outside told.Gone w o s x = absurd o

abbrev pub IsInside : Answer → Type 0
IsInside (told.Hub h) = Unit {0}
IsInside (told.Node r) = Unit {0}
IsInside told.Paused = Unit {0}
IsInside a = ⊥

abbrev pub IsOutsides : Awaited → Type 0
IsOutsides (answer_to k) = ⊥
IsOutsides came = ⊥
IsOutsides pause_end = ⊥
IsOutsides wait_end = ⊥
IsOutsides w = Unit {0}

abbrev pub IsReadAnswer : Answer → Type 0
IsReadAnswer (told.Bytes b) = Unit {0}
IsReadAnswer told.EndOfInput = Unit {0}
IsReadAnswer told.ReadFailed = Unit {0}
IsReadAnswer a = ⊥

abbrev pub NoPiece : Awaited → Type 0
NoPiece (piece m) = ⊥
NoPiece w = Unit {0}

scripts_no_piece : (w : Awaited) → IsScripts w → NoPiece w
scripts_no_piece (piece m) s = s
scripts_no_piece (count m) s = tt
scripts_no_piece begun s = tt
scripts_no_piece (answer_to k) s = tt
scripts_no_piece came s = tt
scripts_no_piece pause_end s = tt
scripts_no_piece wait_end s = tt
scripts_no_piece nothing s = tt

read_no : (a : Answer) (w : Awaited) → IsReadAnswer a → NoPiece w → IsAwaited a w → ⊥
read_no (told.Bytes b) (count m) o s x = x
read_no (told.Bytes b) begun o s x = x
read_no (told.Bytes b) (answer_to k) o s x = x
read_no (told.Bytes b) came o s x = x
read_no (told.Bytes b) pause_end o s x = x
read_no (told.Bytes b) wait_end o s x = x
read_no (told.Bytes b) nothing o s x = x
read_no told.EndOfInput (count m) o s x = x
read_no told.EndOfInput begun o s x = x
read_no told.EndOfInput (answer_to k) o s x = x
read_no told.EndOfInput came o s x = x
read_no told.EndOfInput pause_end o s x = x
read_no told.EndOfInput wait_end o s x = x
read_no told.EndOfInput nothing o s x = x
read_no told.ReadFailed (count m) o s x = x
read_no told.ReadFailed begun o s x = x
read_no told.ReadFailed (answer_to k) o s x = x
read_no told.ReadFailed came o s x = x
read_no told.ReadFailed pause_end o s x = x
read_no told.ReadFailed wait_end o s x = x
read_no told.ReadFailed nothing o s x = x
read_no a (piece m) o s x = absurd s
read_no (told.Wrote n) w o s x = absurd o
read_no told.WriteFailed w o s x = absurd o
read_no told.Begun w o s x = absurd o
read_no (told.Hub h) w o s x = absurd o
read_no (told.Node r) w o s x = absurd o
read_no told.Paused w o s x = absurd o
read_no told.Gone w o s x = absurd o

begun_no : (w : Awaited) → IsScripts w → IsAwaited told.Begun w → ⊥
begun_no (piece m) s x = x
begun_no (count m) s x = x
begun_no begun s x = s
begun_no (answer_to k) s x = x
begun_no came s x = x
begun_no pause_end s x = x
begun_no wait_end s x = x
begun_no nothing s x = x

delete_scripts : (d : Deleting) → IsScripts (delete_awaits d)
delete_scripts (deleting.Lookup id) = tt
delete_scripts (deleting.LookingUp id) = tt
delete_scripts (deleting.End id b) = tt
delete_scripts (deleting.Ending id b) = tt
delete_scripts (deleting.Quit c path) = tt
delete_scripts (deleting.Free c q) = tt
delete_scripts (deleting.Freeing q) = tt

relay_scripts : (r : Relaying) → IsScripts (relay_awaits r)
relay_scripts (relaying.Lookup id target) = tt
relay_scripts (relaying.LookingUp id target) = tt
relay_scripts (relaying.Touch id b address target) = tt
relay_scripts (relaying.Touching id b address target) = tt
relay_scripts (relaying.Exchange address target) = tt

start_scripts : (k : Option carrying.Kind) → IsScripts (start_awaits k)
start_scripts None = tt
start_scripts (Some carrying.Exchange) = tt
start_scripts (Some carrying.Bind) = tt
start_scripts (Some carrying.Fail) = tt
start_scripts (Some carrying.Freed) = tt

create_scripts : (k : Creating) → IsScripts (create_awaits k)
create_scripts (creating.Enqueue choices) = tt
create_scripts creating.Enqueuing = tt
create_scripts (creating.Poll t) = tt
create_scripts (creating.Polling n) = tt
create_scripts (creating.Pausing t) = tt
create_scripts (creating.Starting t carry) = start_scripts (carrying.awaited carry)

run_scripts : (r : Run) → IsScripts (run_awaits r)
run_scripts (run.Calling (calling.Ask call asked)) = tt
run_scripts (run.Calling (calling.Asked asked)) = tt
run_scripts (run.Deleting d) = delete_scripts d
run_scripts (run.Relaying r) = relay_scripts r
run_scripts (run.Creating k) = create_scripts k

undo_scripts : (u : Undoing) → IsScripts (undo_awaits u)
undo_scripts (undo.Withdraw t) = tt
undo_scripts undo.Withdrawing = tt
undo_scripts (undo.Waiting t) = tt
undo_scripts (undo.End s b) = tt
undo_scripts (undo.Ending s b) = tt
undo_scripts (undo.Quit c path) = tt
undo_scripts (undo.Free c) = tt
undo_scripts undo.Freeing = tt
undo_scripts undo.Over = tt

pub no_count_run : (r : Run) → IsAwaited told.WriteFailed (run_awaits r) → ⊥
no_count_run r x = outside told.WriteFailed (run_awaits r) tt (run_scripts r) x

pub no_count_undo : (u : Undoing) → IsAwaited told.WriteFailed (undo_awaits u) → ⊥
no_count_undo u x = outside told.WriteFailed (undo_awaits u) tt (undo_scripts u) x

pub no_wrote_run : (r : Run) (n : ℕ) → IsAwaited (told.Wrote n) (run_awaits r) → ⊥
no_wrote_run r n x = outside (told.Wrote n) (run_awaits r) tt (run_scripts r) x

pub no_wrote_undo : (u : Undoing) (n : ℕ) → IsAwaited (told.Wrote n) (undo_awaits u) → ⊥
no_wrote_undo u n x = outside (told.Wrote n) (undo_awaits u) tt (undo_scripts u) x

-- ---- which state it is, by the answer

hub_scripts : (a : Answer) (w : Awaited) → IsInside a → IsOutsides w → IsAwaited a w → ⊥
hub_scripts (told.Hub h) (piece m) o s x = x
hub_scripts (told.Hub h) (count m) o s x = x
hub_scripts (told.Hub h) begun o s x = x
hub_scripts (told.Hub h) nothing o s x = x
hub_scripts (told.Node r) (piece m) o s x = x
hub_scripts (told.Node r) (count m) o s x = x
hub_scripts (told.Node r) begun o s x = x
hub_scripts (told.Node r) nothing o s x = x
hub_scripts told.Paused (piece m) o s x = x
hub_scripts told.Paused (count m) o s x = x
hub_scripts told.Paused begun o s x = x
hub_scripts told.Paused nothing o s x = x
hub_scripts a (answer_to k) o s x = absurd s
hub_scripts a came o s x = absurd s
hub_scripts a pause_end o s x = absurd s
hub_scripts a wait_end o s x = absurd s
hub_scripts (told.Wrote n) w o s x = absurd o
hub_scripts told.WriteFailed w o s x = absurd o
hub_scripts (told.Bytes b) w o s x = absurd o
hub_scripts told.EndOfInput w o s x = absurd o
hub_scripts told.ReadFailed w o s x = absurd o
hub_scripts told.Begun w o s x = absurd o
hub_scripts told.Gone w o s x = absurd o

-- an answer to a script comes while one is under way, or the end of a session
pub scripts_only : (talk : Talk) (a : Answer) → IsInside a → IsAwaited a (awaited talk) → ((r : Run) → ¬ (talk.state ≡ states.Running r)) →
    ((fault : ConnFault) (u : Undoing) → ¬ (talk.state ≡ states.Undoing fault u)) → ⊥
unfolding awaited
scripts_only talk a inside x no_run no_undo = by_state talk.state refl x
  where
    by_state : (s : State) → talk.state ≡ s → IsAwaited a (state_awaits s talk.read) → ⊥
    by_state states.Reading e y = hub_scripts a (piece (min PIECE (LIMIT - talk.read))) inside tt y
    by_state (states.Continuing sent) e y = hub_scripts a (count (25 - sent)) inside tt y
    by_state states.Beginning e y = hub_scripts a begun inside tt y
    by_state (states.Running r) e y = no_run r e
    by_state (states.Writing out) e y = hub_scripts a (count (min PIECE (length out.bytes - out.sent))) inside tt y
    by_state (states.Undoing fault u) e y = no_undo fault u e
    by_state (states.Done r) e y = hub_scripts a nothing inside tt y

-- what is awaited in a state
pub awaits_at : (talk : Talk) (s : State) (a : Answer) → talk.state ≡ s → IsAwaited a (awaited talk) → IsAwaited a (state_awaits s talk.read)
unfolding awaited
awaits_at talk s a e x = subst (λ (z : State). IsAwaited a (state_awaits z talk.read)) e x

-- ---- a wait

never : false ≡ true → ⊥
never e = cc

start_no_wait : (k : Option carrying.Kind) → is_wait (start_awaits k) ≡ true → ⊥
start_no_wait None e = never e
start_no_wait (Some carrying.Exchange) e = never e
start_no_wait (Some carrying.Bind) e = never e
start_no_wait (Some carrying.Fail) e = never e
start_no_wait (Some carrying.Freed) e = never e

relay_no_wait : (r : Relaying) → is_wait (relay_awaits r) ≡ true → ⊥
relay_no_wait (relaying.Lookup id target) e = never e
relay_no_wait (relaying.LookingUp id target) e = never e
relay_no_wait (relaying.Touch id b address target) e = never e
relay_no_wait (relaying.Touching id b address target) e = never e
relay_no_wait (relaying.Exchange address target) e = never e

-- a command that is passed on does not wait so
pub wait_relays_none : (r : Run) → is_wait (run_awaits r) ≡ true → run_relays r ≡ false
wait_relays_none (run.Calling c) e = refl
wait_relays_none (run.Deleting d) e = refl
wait_relays_none (run.Relaying r) e = absurd (relay_no_wait r e)
wait_relays_none (run.Creating k) e = refl

undo_waits_none : (u : Undoing) → is_wait (undo_awaits u) ≡ false
undo_waits_none (undo.Withdraw t) = refl
undo_waits_none undo.Withdrawing = refl
undo_waits_none (undo.Waiting t) = refl
undo_waits_none (undo.End s b) = refl
undo_waits_none (undo.Ending s b) = refl
undo_waits_none (undo.Quit c path) = refl
undo_waits_none (undo.Free c) = refl
undo_waits_none undo.Freeing = refl
undo_waits_none undo.Over = refl

-- a state without a script does not
state_waits_none : (s : State) (read : ℕ) → ((r : Run) → ¬ (s ≡ states.Running r)) → is_wait (state_awaits s read) ≡ false
state_waits_none states.Reading read n = refl
state_waits_none (states.Continuing sent) read n = refl
state_waits_none states.Beginning read n = refl
state_waits_none (states.Running r) read n = absurd (n r refl)
state_waits_none (states.Writing out) read n = refl
state_waits_none (states.Undoing fault u) read n = undo_waits_none u
state_waits_none (states.Done r) read n = refl

pub waits_none : (talk : Talk) → ((r : Run) → ¬ (talk.state ≡ states.Running r)) → is_wait (awaited talk) ≡ false
unfolding awaited
waits_none talk n = state_waits_none talk.state talk.read n

pub waits_only : (talk : Talk) → IsAwaited told.Gone (awaited talk) → ((r : Run) → ¬ (talk.state ≡ states.Running r)) → ⊥
waits_only talk x n = never (sym (waits_none talk n) ∙ x)

pub waits_as : (talk : Talk) (r : Run) → talk.state ≡ states.Running r → is_wait (awaited talk) ≡ is_wait (run_awaits r)
unfolding awaited
waits_as talk r e = ap (λ (s : State). is_wait (state_awaits s talk.read)) e

-- a piece, or the end of the input, comes where it reads
pub reading_only : (talk : Talk) (a : Answer) → IsReadAnswer a → IsAwaited a (awaited talk) → talk.state ≡ states.Reading
unfolding awaited
reading_only talk a kind x = by_state talk.state refl x
  where
    by_state : (s : State) → talk.state ≡ s → IsAwaited a (state_awaits s talk.read) → talk.state ≡ states.Reading
    by_state states.Reading e y = e
    by_state (states.Continuing sent) e y = absurd (read_no a (count (25 - sent)) kind tt y)
    by_state states.Beginning e y = absurd (read_no a begun kind tt y)
    by_state (states.Running r) e y = absurd (read_no a (run_awaits r) kind (scripts_no_piece (run_awaits r) (run_scripts r)) y)
    by_state (states.Writing out) e y = absurd (read_no a (count (min PIECE (length out.bytes - out.sent))) kind tt y)
    by_state (states.Undoing fault u) e y = absurd (read_no a (undo_awaits u) kind (scripts_no_piece (undo_awaits u) (undo_scripts u)) y)
    by_state (states.Done r) e y = absurd (read_no a nothing kind tt y)

-- `Begun` where that is wanted
pub beginning_only : (talk : Talk) → IsAwaited told.Begun (awaited talk) → talk.state ≡ states.Beginning
unfolding awaited
beginning_only talk x = by_state talk.state refl x
  where
    by_state : (s : State) → talk.state ≡ s → IsAwaited told.Begun (state_awaits s talk.read) → talk.state ≡ states.Beginning
    by_state states.Beginning e y = e
    by_state states.Reading e y = absurd y
    by_state (states.Continuing sent) e y = absurd y
    by_state (states.Running r) e y = absurd (begun_no (run_awaits r) (run_scripts r) y)
    by_state (states.Writing out) e y = absurd y
    by_state (states.Undoing fault u) e y = absurd (begun_no (undo_awaits u) (undo_scripts u) y)
    by_state (states.Done r) e y = absurd y

-- bytes were taken where something is written
pub writing_only : (talk : Talk) (n : ℕ) → IsAwaited (told.Wrote n) (awaited talk) → ((sent : ℕ) → ¬ (talk.state ≡ states.Continuing sent)) →
    ((out : Outgoing) → ¬ (talk.state ≡ states.Writing out)) → ⊥
unfolding awaited
writing_only talk n x no_continue no_write = by_state talk.state refl x
  where
    by_state : (s : State) → talk.state ≡ s → IsAwaited (told.Wrote n) (state_awaits s talk.read) → ⊥
    by_state states.Reading e y = y
    by_state (states.Continuing sent) e y = no_continue sent e
    by_state states.Beginning e y = y
    by_state (states.Running r) e y = no_wrote_run r n y
    by_state (states.Writing out) e y = no_write out e
    by_state (states.Undoing fault u) e y = no_wrote_undo u n y
    by_state (states.Done r) e y = y

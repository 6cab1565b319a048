-- That each answer lowers what is left to do.
use Rattle.std.proofs.Common.{◌≡◌, ℕ, ◌+◌, ◌-◌, ◌*◌, ◌^◌, ◌<◌, ◌≤◌, Bool, true, false, List, length, sym, ap, ◌∙◌, subst, arith}
use Rattle.std.specs.Borrow.{Bor}
use Rattle.std.specs.Prelude.{Result, Err}
use Rattle.conn_script.specs.declared.wants.Answer.{Answer}
use Rattle.conn_script.specs.declared.wants.Answer.TheVariants as told
use Rattle.conn_script.specs.declared.wants.ConnFault.{ConnFault}
use Rattle.conn_script.specs.declared.wants.End.{End}
use Rattle.conn_script.specs.declared.wants.Served.{Served}
use Rattle.conn_script.specs.declared.wants.TheConstants.{LIMIT}
use Rattle.conn_script.specs.declared.turn.Run.{Run}
use Rattle.conn_script.specs.declared.turn.Turn.{Turn}
use Rattle.conn_script.specs.declared.turn.Turn.TheVariants as turn
use Rattle.conn_script.specs.declared.undoing.Undoing.{Undoing}
use Rattle.conn_script.specs.Work.{Outlook, KeepsWork as KeepsRunWork, RunsLess, UndoesLess, LeavesLittle, run_work, turn_work, undo_work, queue_work}
use Rattle.hub_conn.specs.declared.talk.Talk.{Talk}
use Rattle.hub_conn.specs.declared.talk.State.{State}
use Rattle.hub_conn.specs.declared.talk.State.TheVariants as states
use Rattle.hub_conn.specs.declared.talk.Outgoing.{Outgoing}
use Rattle.hub_conn.specs.declared.talk.Kept.{Kept}
use Rattle.hub_conn.specs.declared.talk.Then.{Then}
use Rattle.hub_conn.specs.declared.talk.Then.TheVariants as after
use Rattle.hub_conn.specs.Talk.{Rests}
use Rattle.hub_conn.specs.Work.{work, bytes_left, byte_work, unsent_left, write_work, state_work, read_work, begin_work, look_work, then_work, FeedsLess, KeepsWork, LeavesAtMost, LeavesUndoing, TurnsTo, SendsSome, ContinuesSome}

-- ---- by the state

work_in : (talk : Talk) (s : State) (o : Outlook) → talk.state ≡ s → work talk o ≡ state_work s (bytes_left talk) o
unfolding work
work_in talk s o e = ap (λ (z : State). state_work z (bytes_left talk) o) e

same_at_most : (m n k : ℕ) → m ≡ n → n ≤ k → m ≤ k
same_at_most m n k e h = subst (λ (x : ℕ). x ≤ k) (sym e) h

self_at_most : (n : ℕ) → n ≤ n
self_at_most n = omega arith

at_most : (m n k : ℕ) → m ≤ n → n ≤ k → m ≤ k
at_most m n k a b = omega arith

at_most_below : (m n k : ℕ) → m ≤ n → n < k → m < k
at_most_below m n k a b = omega arith

pub leaves_in : (n : ℕ) (new : Talk) (s : State) → new.state ≡ s → ((o : Outlook) → state_work s (bytes_left new) o ≤ n) → LeavesAtMost n new
leaves_in n new s e h o = same_at_most (work new o) (state_work s (bytes_left new) o) n (work_in new s o e) (h o)

pub done_leaves : (n : ℕ) (new : Talk) (result : Result Served ConnFault) → new.state ≡ states.Done result → LeavesAtMost n new
done_leaves n new result e = leaves_in n new (states.Done result) e (λ o. nothing n)
  where
    nothing : (k : ℕ) → 0 ≤ k
    nothing k = omega arith

pub bytes_kept : (old new : Talk) → Rests old new → bytes_left new ≡ bytes_left old
bytes_kept old new rests =
    ap (λ (r : ℕ). 2 * (LIMIT - r) + (r - new.begins)) rests.same.read ∙ ap (λ (b : ℕ). 2 * (LIMIT - old.read) + (old.read - b)) rests.same.begins

-- in a state in which an answer is awaited
less_in : (old new : Talk) (s : State) (before later : Outlook) → old.state ≡ s → work new later < state_work s (bytes_left old) before → work new later < work old before
less_in old new s before later e h = subst (λ (n : ℕ). work new later < n) (sym (work_in old s before e)) h

-- it is over
pub done_less : (old new : Talk) (answer : Answer) (s : State) (result : Result Served ConnFault) → old.state ≡ s → new.state ≡ states.Done result →
    ((o : Outlook) → 0 < state_work s (bytes_left old) o) → FeedsLess old answer new
done_less old new answer s result e failed some before later h =
    less_in old new s before later e
    (at_most_below (work new later) 0 (state_work s (bytes_left old) before) (done_leaves 0 new result failed later) (some before))

pub reading_some_work : (bytes : ℕ) → 0 < byte_work * bytes + 2 ^ 66
reading_some_work bytes = omega arith

pub continuing_some_work : (bytes sent : ℕ) → 0 < byte_work * bytes + (2 ^ 72 + (25 - sent))
continuing_some_work bytes sent = omega arith

-- ---- looks

pub reads_leave : (bytes : ℕ) (new : Talk) → LeavesAtMost (read_work bytes) new → LeavesAtMost (begin_work bytes) new
reads_leave bytes new h o = at_most (work new o) (read_work bytes) (begin_work bytes) (h o) (omega arith)

begins_look : (continued : Bool) (bytes : ℕ) → begin_work bytes ≤ look_work continued bytes
begins_look true bytes = omega arith
begins_look false bytes = omega arith

pub look_leaves : (continued : Bool) (bytes : ℕ) (new : Talk) → LeavesAtMost (begin_work bytes) new → LeavesAtMost (look_work continued bytes) new
look_leaves continued bytes new h o = at_most (work new o) (begin_work bytes) (look_work continued bytes) (h o) (begins_look continued bytes)

-- a `100 Continue` is due
pub due_leaves : (continued : Bool) (new : Talk) → continued ≡ false → new.state ≡ states.Continuing 0 → LeavesAtMost (look_work continued (bytes_left new)) new
due_leaves continued new none e =
    leaves_in (look_work continued (bytes_left new)) new (states.Continuing 0) e
    (λ o. subst (λ (b : Bool). state_work (states.Continuing 0) (bytes_left new) o ≤ look_work b (bytes_left new)) (sym none) (fits (bytes_left new)))
  where
    fits : (bytes : ℕ) → byte_work * bytes + (2 ^ 72 + (25 - 0)) ≤ byte_work * bytes + (2 ^ 72 + 25)
    fits bytes = omega arith

pub refused_leaves : (new : Talk) (out : Outgoing) (e : End) → new.state ≡ states.Writing out → out.then ≡ after.End e → length out.bytes ≤ 2 ^ 64 →
    LeavesAtMost (read_work (bytes_left new)) new
refused_leaves new out e is ends few =
    leaves_in (read_work (bytes_left new)) new (states.Writing out) is
    (λ o. subst (λ (t : Then). write_work t (unsent_left out) (bytes_left new) ≤ read_work (bytes_left new)) (sym ends)
    (fits (length out.bytes) out.sent (bytes_left new) few))
  where
    fits : (n sent bytes : ℕ) → n ≤ 2 ^ 64 → 6 + (n - sent) ≤ byte_work * bytes + 2 ^ 66
    fits n sent bytes h = omega (arith, h)

-- ---- turns

pub goes_less : (old new : Talk) (t : Turn) (r : Run) (short : Bool) → t ≡ turn.Go r short → new.state ≡ states.Running r → bytes_left new ≡ bytes_left old → TurnsTo old t new
goes_less old new t r short is e bytes o =
    subst (λ (x : Turn). work new o ≤ byte_work * bytes_left old + (2 ^ 66 + turn_work x o)) (sym is)
    (subst (λ (n : ℕ). work new o ≤ byte_work * n + (2 ^ 66 + run_work r o)) bytes
    (same_at_most (work new o) (byte_work * bytes_left new + (2 ^ 66 + run_work r o)) (byte_work * bytes_left new + (2 ^ 66 + run_work r o))
    (work_in new (states.Running r) o e) (self_at_most (byte_work * bytes_left new + (2 ^ 66 + run_work r o)))))

pub responds_less : (old new : Talk) (t : Turn) → LeavesAtMost (byte_work * bytes_left old) new → TurnsTo old t new
responds_less old new t h o =
    at_most (work new o) (byte_work * bytes_left old) (byte_work * bytes_left old + (2 ^ 66 + turn_work t o)) (h o) (more (byte_work * bytes_left old) (turn_work t o))
  where
    more : (m n : ℕ) → m ≤ m + (2 ^ 66 + n)
    more m n = omega arith

pub undo_less : (old new : Talk) (t : Turn) → LeavesAtMost 4 new → TurnsTo old t new
undo_less old new t h o =
    at_most (work new o) 4 (byte_work * bytes_left old + (2 ^ 66 + turn_work t o)) (h o) (more (byte_work * bytes_left old) (turn_work t o))
  where
    more : (m n : ℕ) → 4 ≤ m + (2 ^ 66 + n)
    more m n = omega arith

-- what was answered is at least one byte
next_fits : (a read begins left len n : ℕ) → begins + len ≡ read → left < len → n ≤ 2 ^ 64 →
    2 ^ 100 * (2 * a + (read - (read - left))) + (2 ^ 73 + (n - 0)) ≤ 2 ^ 100 * (2 * a + (read - begins))
next_fits a read begins left len n e f h =
    let behind : read - (read - left) ≡ left = omega (arith, e, f) in
    let more : left + 1 ≤ read - begins = omega (arith, e, f) in
    subst (λ (x : ℕ). 2 ^ 100 * (2 * a + x) + (2 ^ 73 + (n - 0)) ≤ 2 ^ 100 * (2 * a + (read - begins))) (sym behind) (pays (2 * a) left (read - begins) n more h)
  where
    pays : (b x y k : ℕ) → x + 1 ≤ y → k ≤ 2 ^ 64 → 2 ^ 100 * (b + x) + (2 ^ 73 + (k - 0)) ≤ 2 ^ 100 * (b + y)
    pays b x y k p q = omega (arith, p, q)

end_fits : (a read begins left len n : ℕ) → begins + len ≡ read → left < len → n ≤ 2 ^ 64 → 6 + (n - 0) ≤ 2 ^ 100 * (2 * a + (read - begins))
end_fits a read begins left len n e f h =
    let some : 1 ≤ read - begins = omega (arith, e, f) in
    pays (2 * a) (read - begins) n some h
  where
    pays : (b y k : ℕ) → 1 ≤ y → k ≤ 2 ^ 64 → 6 + (k - 0) ≤ 2 ^ 100 * (b + y)
    pays b y k p q = omega (arith, p, q)

pub responded_leaves : (old new : Talk) (bytes : List ℕ) (t : Then) (kept : Kept) (left len : ℕ) →
    new.state ≡ states.Writing (record { bytes = bytes; sent = 0; then = t; kept = kept }) → new.read ≡ old.read → new.begins ≡ old.read - left →
    old.begins + len ≡ old.read → left < len → length bytes ≤ 2 ^ 64 → LeavesAtMost (byte_work * bytes_left old) new
responded_leaves old new bytes t kept left len is read begins whole some few =
    leaves_in (byte_work * bytes_left old) new (states.Writing (record { bytes = bytes; sent = 0; then = t; kept = kept })) is
    (λ o. subst (λ (n : ℕ). write_work t (length bytes - 0) n ≤ byte_work * bytes_left old) (sym left_is) (by_then t))
  where
    left_is : bytes_left new ≡ 2 * (LIMIT - old.read) + (old.read - (old.read - left))
    left_is = ap (λ (r : ℕ). 2 * (LIMIT - r) + (r - new.begins)) read ∙ ap (λ (b : ℕ). 2 * (LIMIT - old.read) + (old.read - b)) begins

    by_then : (u : Then) → write_work u (length bytes - 0) (2 * (LIMIT - old.read) + (old.read - (old.read - left))) ≤ byte_work * bytes_left old
    by_then after.Next = next_fits (LIMIT - old.read) old.read old.begins left len (length bytes) whole some few
    by_then (after.End e) = end_fits (LIMIT - old.read) old.read old.begins left len (length bytes) whole some few

-- ---- bytes that were taken

looks_then : (continued : Bool) (bytes : ℕ) → look_work continued bytes ≤ then_work after.Next bytes
looks_then true bytes = omega arith
looks_then false bytes = omega arith

pub next_leaves : (t : Then) (continued : Bool) (bytes : ℕ) (new : Talk) → t ≡ after.Next → LeavesAtMost (look_work continued bytes) new → LeavesAtMost (then_work t bytes) new
next_leaves t continued bytes new is h o =
    subst (λ (u : Then). work new o ≤ then_work u bytes) (sym is) (at_most (work new o) (look_work continued bytes) (then_work after.Next bytes) (h o) (looks_then continued bytes))

fewer : (t : Then) (len sent n bytes : ℕ) → 0 < n → sent + n < len → write_work t (len - (sent + n)) bytes < write_work t (len - sent) bytes
fewer after.Next len sent n bytes some within = omega (arith, some, within)
fewer (after.End e) len sent n bytes some within = omega (arith, some, within)

pub sends_less : (old new : Talk) (out : Outgoing) (n : ℕ) →
    new.state ≡ states.Writing (record { bytes = out.bytes; sent = out.sent + n; then = out.then; kept = out.kept }) → bytes_left new ≡ bytes_left old →
    out.sent + n < length out.bytes → SendsSome old out n new
sends_less old new out n is bytes within some o =
    let s = states.Writing (record { bytes = out.bytes; sent = out.sent + n; then = out.then; kept = out.kept }) in
    subst (λ (m : ℕ). m < write_work out.then (unsent_left out) (bytes_left old)) (sym (work_in new s o is))
    (subst (λ (m : ℕ). write_work out.then (length out.bytes - (out.sent + n)) m < write_work out.then (unsent_left out) (bytes_left old)) (sym bytes)
    (fewer out.then (length out.bytes) out.sent n (bytes_left old) some within))

then_below : (t : Then) (unsent bytes : ℕ) → then_work t bytes < write_work t unsent bytes
then_below after.Next unsent bytes = omega arith
then_below (after.End e) unsent bytes = omega arith

pub sends_all_less : (old new : Talk) (out : Outgoing) (n : ℕ) → LeavesAtMost (then_work out.then (bytes_left old)) new → SendsSome old out n new
sends_all_less old new out n h some o =
    at_most_below (work new o) (then_work out.then (bytes_left old)) (write_work out.then (unsent_left out) (bytes_left old)) (h o)
    (then_below out.then (unsent_left out) (bytes_left old))

pub continues_less : (old new : Talk) (sent n : ℕ) → new.state ≡ states.Continuing (sent + n) → bytes_left new ≡ bytes_left old → sent + n < 25 → ContinuesSome old sent n new
continues_less old new sent n is bytes within some o =
    subst (λ (m : ℕ). m < byte_work * bytes_left old + (2 ^ 72 + (25 - sent))) (sym (work_in new (states.Continuing (sent + n)) o is))
    (subst (λ (m : ℕ). byte_work * m + (2 ^ 72 + (25 - (sent + n))) < byte_work * bytes_left old + (2 ^ 72 + (25 - sent))) (sym bytes)
    (falls (byte_work * bytes_left old) sent n some within))
  where
    falls : (m a k : ℕ) → 0 < k → a + k < 25 → m + (2 ^ 72 + (25 - (a + k))) < m + (2 ^ 72 + (25 - a))
    falls m a k p q = omega (arith, p, q)

pub continued_less : (old new : Talk) (sent n : ℕ) → LeavesAtMost (begin_work (bytes_left old)) new → ContinuesSome old sent n new
continued_less old new sent n h some o =
    at_most_below (work new o) (begin_work (bytes_left old)) (byte_work * bytes_left old + (2 ^ 72 + (25 - sent))) (h o) (falls (byte_work * bytes_left old) (25 - sent))
  where
    falls : (m a : ℕ) → m + 2 ^ 71 < m + (2 ^ 72 + a)
    falls m a = omega arith

-- ---- answers

look_few : (continued : Bool) (bytes : ℕ) → look_work continued bytes < byte_work * (bytes + 1) + 2 ^ 66
look_few true bytes = omega arith
look_few false bytes = omega arith

pub came_less : (old new : Talk) (p : Bor (List ℕ)) (continued : Bool) → old.state ≡ states.Reading → length p.now + old.read ≤ LIMIT →
    LeavesAtMost (look_work continued (2 * (LIMIT - (old.read + length p.now)) + ((old.read + length p.now) - old.begins))) new → FeedsLess old (told.Bytes p) new
came_less old new p continued e room h before later some =
    less_in old new states.Reading before later e
    (at_most_below (work new later) (look_work continued left) (byte_work * bytes_left old + 2 ^ 66) (h later)
    (pays (look_work continued left) left (bytes_left old) (look_few continued left) (falls LIMIT old.read old.begins (length p.now) some room)))
  where
    left : ℕ
    left = 2 * (LIMIT - (old.read + length p.now)) + ((old.read + length p.now) - old.begins)

    falls : (limit r b n : ℕ) → 0 < n → n + r ≤ limit → (2 * (limit - (r + n)) + ((r + n) - b)) + 1 ≤ 2 * (limit - r) + (r - b)
    falls limit r b n x y = omega (arith, x, y)

    pays : (w x y : ℕ) → w < byte_work * (x + 1) + 2 ^ 66 → x + 1 ≤ y → w < byte_work * y + 2 ^ 66
    pays w x y a b = omega (arith, a, b)

pub sent_feeds : (old mid new : Talk) (out : Outgoing) (n : ℕ) → old.state ≡ states.Writing out → Rests old mid → SendsSome mid out n new → FeedsLess old (told.Wrote n) new
sent_feeds old mid new out n e rests h before later some =
    less_in old new (states.Writing out) before later e
    (subst (λ (m : ℕ). work new later < write_work out.then (unsent_left out) m) (bytes_kept old mid rests) (h some later))

pub continued_feeds : (old mid new : Talk) (sent n : ℕ) → old.state ≡ states.Continuing sent → Rests old mid → ContinuesSome mid sent n new → FeedsLess old (told.Wrote n) new
continued_feeds old mid new sent n e rests h before later some =
    less_in old new (states.Continuing sent) before later e
    (subst (λ (m : ℕ). work new later < byte_work * m + (2 ^ 72 + (25 - sent))) (bytes_kept old mid rests) (h some later))

write_some : (t : Then) (unsent bytes : ℕ) → 4 < write_work t unsent bytes
write_some after.Next unsent bytes = omega arith
write_some (after.End e) unsent bytes = omega arith

pub broken_less : (old new : Talk) (out : Outgoing) → old.state ≡ states.Writing out → LeavesAtMost 4 new → FeedsLess old told.WriteFailed new
broken_less old new out e h before later tt =
    less_in old new (states.Writing out) before later e
    (at_most_below (work new later) 4 (write_work out.then (unsent_left out) (bytes_left old)) (h later) (write_some out.then (unsent_left out) (bytes_left old)))

pub begun_less : (old mid new : Talk) (t : Turn) → old.state ≡ states.Beginning → Rests old mid → ((o : Outlook) → turn_work t o ≤ queue_work) → TurnsTo mid t new →
    FeedsLess old told.Begun new
begun_less old mid new t e rests few h before later x =
    less_in old new states.Beginning before later e
    (subst (λ (m : ℕ). work new later < byte_work * m + 2 ^ 71) (bytes_kept old mid rests)
    (at_most_below (work new later) (byte_work * bytes_left mid + (2 ^ 66 + turn_work t later)) (byte_work * bytes_left mid + 2 ^ 71) (h later)
    (fits (byte_work * bytes_left mid) (turn_work t later) (few later))))
  where
    fits : (m n : ℕ) → n ≤ 2 ^ 70 → m + (2 ^ 66 + n) < m + 2 ^ 71
    fits m n a = omega (arith, a)

pub turn_less : (old mid new : Talk) (run : Run) (answer : Answer) (t : Turn) → old.state ≡ states.Running run → Rests old mid → RunsLess run answer t → TurnsTo mid t new →
    FeedsLess old answer new
turn_less old mid new run answer t e rests less h before later x =
    less_in old new (states.Running run) before later e
    (subst (λ (m : ℕ). work new later < byte_work * m + (2 ^ 66 + run_work run before)) (bytes_kept old mid rests)
    (at_most_below (work new later) (byte_work * bytes_left mid + (2 ^ 66 + turn_work t later)) (byte_work * bytes_left mid + (2 ^ 66 + run_work run before)) (h later)
    (falls (byte_work * bytes_left mid) (turn_work t later) (run_work run before) (less before later x))))
  where
    falls : (m a b : ℕ) → a < b → m + (2 ^ 66 + a) < m + (2 ^ 66 + b)
    falls m a b p = omega (arith, p)

pub undo_feeds : (old new : Talk) (fault : ConnFault) (u v : Undoing) (answer : Answer) → old.state ≡ states.Undoing fault u → UndoesLess u answer v →
    LeavesUndoing v new → FeedsLess old answer new
undo_feeds old new fault u v answer e less h before later x =
    less_in old new (states.Undoing fault u) before later e
    (at_most_below (work new later) (1 + undo_work v later) (1 + undo_work u before) (h later) (falls (undo_work v later) (undo_work u before) (less before later x)))
  where
    falls : (a b : ℕ) → a < b → 1 + a < 1 + b
    falls a b p = omega (arith, p)

-- what is left to do after the fault
pub undoing_leaves : (new : Talk) (fault : ConnFault) (u : Undoing) → new.state ≡ states.Undoing fault u → LeavesUndoing u new
undoing_leaves new fault u e o = same_at_most (work new o) (1 + undo_work u o) (1 + undo_work u o) (work_in new (states.Undoing fault u) o e) (self_at_most (1 + undo_work u o))

pub undone_leaves : (new : Talk) (fault : ConnFault) (u : Undoing) → new.state ≡ states.Done (Err fault) → LeavesUndoing u new
undone_leaves new fault u e o = at_most (work new o) 0 (1 + undo_work u o) (done_leaves 0 new (Err fault) e o) (omega arith)

-- a client that has left
pub gone_less : (old new : Talk) (run : Run) (u : Undoing) → old.state ≡ states.Running run → LeavesLittle run u → LeavesUndoing u new → FeedsLess old told.Gone new
gone_less old new run u e little h before later x =
    less_in old new (states.Running run) before later e
    (at_most_below (work new later) (1 + undo_work u later) (byte_work * bytes_left old + (2 ^ 66 + run_work run before)) (h later)
    (falls (byte_work * bytes_left old) (undo_work u later) (run_work run before) (little before later x)))
  where
    falls : (m a b : ℕ) → a ≤ b + 3 → 1 + a < m + (2 ^ 66 + b)
    falls m a b p = omega (arith, p)

-- ---- a call that is handed out

pub run_kept : (old new : Talk) (r s : Run) → old.state ≡ states.Running r → new.state ≡ states.Running s → Rests old new → KeepsRunWork r s → KeepsWork old new
run_kept old new r s e at rests keeps o =
    work_in new (states.Running s) o at ∙ ap (λ (m : ℕ). byte_work * m + (2 ^ 66 + run_work s o)) (bytes_kept old new rests)
    ∙ ap (λ (m : ℕ). byte_work * bytes_left old + (2 ^ 66 + m)) (keeps o) ∙ sym (work_in old (states.Running r) o e)

pub undo_kept : (old new : Talk) (fault : ConnFault) (u v : Undoing) → old.state ≡ states.Undoing fault u → new.state ≡ states.Undoing fault v → ((o : Outlook) → undo_work v o ≡ undo_work u o) →
    KeepsWork old new
undo_kept old new fault u v e at keeps o =
    work_in new (states.Undoing fault v) o at ∙ ap (λ (m : ℕ). 1 + m) (keeps o) ∙ sym (work_in old (states.Undoing fault u) o e)

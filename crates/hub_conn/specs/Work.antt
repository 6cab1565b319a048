-- How much a connection has still to do: a number that each answer lowers, as far as the outlook of a New Session does its part.
use Rattle.std.specs.Prelude.{◌≡◌, ℕ, ◌+◌, ◌-◌, ◌*◌, ◌^◌, ◌<◌, ◌≤◌, Bool, true, false, length}
use Rattle.conn_script.specs.declared.wants.TheConstants.{LIMIT}
use Rattle.conn_script.specs.declared.wants.Answer.{Answer}
use Rattle.conn_script.specs.declared.turn.Turn.{Turn}
use Rattle.conn_script.specs.declared.undoing.Undoing.{Undoing}
use Rattle.conn_script.specs.Work.{Outlook, Lowers, run_work, turn_work, undo_work}
use Rattle.hub_conn.specs.declared.talk.Talk.{Talk}
use Rattle.hub_conn.specs.declared.talk.Outgoing.{Outgoing}
use Rattle.hub_conn.specs.declared.talk.Then.{Then}
use Rattle.hub_conn.specs.declared.talk.Then.TheVariants as after
use Rattle.hub_conn.specs.declared.talk.State.{State}
use Rattle.hub_conn.specs.declared.talk.State.TheVariants as states

-- A byte that may still be read may be read and then answered; one that was read may be answered.
abbrev pub bytes_left : Talk → ℕ
bytes_left talk = 2 * (LIMIT - talk.read) + (talk.read - talk.begins)

-- what one of them may still lead to, and more
abbrev pub byte_work : ℕ
byte_work = 2 ^ 100

abbrev pub unsent_left : Outgoing → ℕ
unsent_left out = length out.bytes - out.sent

-- of a response with so many bytes left to send, in a connection of so many bytes
abbrev pub write_work : Then → (unsent bytes : ℕ) → ℕ
write_work after.Next unsent bytes = byte_work * bytes + (2 ^ 73 + unsent)
write_work (after.End end) unsent bytes = 6 + unsent

-- A request goes down from its interim response to what goes before it, its script and its response; behind that the next one may
-- stand, for which its own bytes have paid.
abbrev pub state_work : State → ℕ → Outlook → ℕ
state_work states.Reading bytes o = byte_work * bytes + 2 ^ 66
state_work (states.Continuing sent) bytes o = byte_work * bytes + (2 ^ 72 + (25 - sent))
state_work states.Beginning bytes o = byte_work * bytes + 2 ^ 71
state_work (states.Running run) bytes o = byte_work * bytes + (2 ^ 66 + run_work run o)
state_work (states.Writing out) bytes o = write_work out.then (unsent_left out) bytes
state_work (states.Undoing fault u) bytes o = 1 + undo_work u o
state_work (states.Done result) bytes o = 0

unfoldable pub work : Talk → Outlook → ℕ
work talk o = state_work talk.state (bytes_left talk) o

-- less is left after an answer than before it
abbrev pub FeedsLess : Talk → Answer → Talk → Type 0
FeedsLess old answer new = (before later : Outlook) → Lowers answer before later → work new later < work old before

-- as much is left
abbrev pub KeepsWork : Talk → Talk → Type 0
KeepsWork old new = (o : Outlook) → work new o ≡ work old o

-- ---- what the steps inside leave

abbrev pub read_work : ℕ → ℕ
read_work bytes = byte_work * bytes + 2 ^ 66

abbrev pub begin_work : ℕ → ℕ
begin_work bytes = byte_work * bytes + 2 ^ 71

abbrev pub LeavesAtMost : ℕ → Talk → Type 0
LeavesAtMost n new = (o : Outlook) → work new o ≤ n

-- of what is left to do after a fault
abbrev pub LeavesUndoing : Undoing → Talk → Type 0
LeavesUndoing u new = (o : Outlook) → work new o ≤ 1 + undo_work u o

-- of bytes that are looked at, where `100 Continue` was written or not
abbrev pub look_work : Bool → ℕ → ℕ
look_work true bytes = begin_work bytes
look_work false bytes = byte_work * bytes + (2 ^ 72 + 25)

abbrev pub then_work : Then → ℕ → ℕ
then_work after.Next bytes = byte_work * bytes + (2 ^ 72 + 25)
then_work (after.End end) bytes = 0

-- a turn of the script of the request at the front
abbrev pub TurnsTo : Talk → Turn → Talk → Type 0
TurnsTo old turn new = (o : Outlook) → work new o ≤ byte_work * bytes_left old + (2 ^ 66 + turn_work turn o)

-- so many bytes of the response were taken, at least one
abbrev pub SendsSome : Talk → Outgoing → ℕ → Talk → Type 0
SendsSome old out n new = 0 < n → (o : Outlook) → work new o < write_work out.then (unsent_left out) (bytes_left old)

abbrev pub ContinuesSome : Talk → ℕ → ℕ → Talk → Type 0
ContinuesSome old sent n new = 0 < n → (o : Outlook) → work new o < byte_work * bytes_left old + (2 ^ 72 + (25 - sent))

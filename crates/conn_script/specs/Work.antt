-- How much is left to do in a script: a number that each answer lowers, as far as the outlook of a New Session does its part.
use Rattle.std.specs.Prelude.{◌≡◌, ℕ, ◌+◌, ◌*◌, ◌^◌, ◌<◌, ◌≤◌, length}
use Rattle.hub_core.specs.declared.answers.Enqueued.{Enqueued}
use Rattle.hub_core.specs.declared.answers.Enqueued.TheVariants as enqueued
use Rattle.hub_core.specs.declared.answers.Polled.{Polled}
use Rattle.hub_core.specs.declared.answers.Polled.TheVariants as polled
use Rattle.hub_core.specs.declared.answers.Withdrawing.{Withdrawing}
use Rattle.hub_core.specs.declared.answers.Withdrawing.TheVariants as withdrawing
use Rattle.node_client.specs.declared.carry.Carry.{Carry}
use Rattle.node_client.specs.Carrying.{work}
use Rattle.conn_script.specs.declared.deleting.Deleting.{Deleting}
use Rattle.conn_script.specs.declared.deleting.Deleting.TheVariants as deleting
use Rattle.conn_script.specs.declared.relaying.Relaying.{Relaying}
use Rattle.conn_script.specs.declared.relaying.Relaying.TheVariants as relaying
use Rattle.conn_script.specs.declared.creating.Creating.{Creating}
use Rattle.conn_script.specs.declared.creating.Creating.TheVariants as creating
use Rattle.conn_script.specs.declared.undoing.Undoing.{Undoing}
use Rattle.conn_script.specs.declared.undoing.Undoing.TheVariants as undoing
use Rattle.conn_script.specs.declared.turn.Run.{Run}
use Rattle.conn_script.specs.declared.turn.Run.TheVariants as run
use Rattle.conn_script.specs.declared.turn.Turn.{Turn}
use Rattle.conn_script.specs.declared.turn.Turn.TheVariants as turn
use Rattle.conn_script.specs.declared.wants.Answer.{Answer}
use Rattle.conn_script.specs.declared.wants.Answer.TheVariants as told
use Rattle.conn_script.specs.declared.wants.HubAnswer.{HubAnswer}
use Rattle.conn_script.specs.declared.wants.HubAnswer.TheVariants as answers

-- ---- the outlook

-- What a driver knows of the request that waits for a session, and a connection does not: how many starts may still come for it, and
-- how many pauses until its deadline.
pub record Outlook : Type 0 where
  pub starts : ℕ
  pub pauses : ℕ

-- that of a request that was queued just now
abbrev pub IsWithin : Outlook → Type 0
IsWithin o = (o.starts ≤ 2 ^ 32) × (o.pauses ≤ 2 ^ 64)

abbrev pub NoMore : (before after : Outlook) → Type 0
NoMore before after = (after.starts ≤ before.starts) × (after.pauses ≤ before.pauses)

abbrev pub FewerStarts : (before after : Outlook) → Type 0
FewerStarts before after = (after.starts < before.starts) × (after.pauses ≤ before.pauses)

abbrev pub FewerPauses : (before after : Outlook) → Type 0
FewerPauses before after = (after.starts ≤ before.starts) × (after.pauses < before.pauses)

-- ---- what is left to do

-- Each start is a poll, at most four answers to it and the poll behind it; each pause is one answer and the poll behind it.
abbrev pub rounds_work : Outlook → ℕ
rounds_work o = 8 * o.starts + 4 * o.pauses

-- before the request is queued there is no outlook
abbrev pub queue_work : ℕ
queue_work = 2 ^ 70

abbrev pub create_work : Creating → Outlook → ℕ
create_work (creating.Enqueue choices) o = queue_work
create_work creating.Enqueuing o = queue_work
create_work (creating.Poll t) o = rounds_work o + 3
create_work (creating.Polling n) o = rounds_work o + 3
create_work (creating.Pausing t) o = rounds_work o + 2
create_work (creating.Starting t carry) o = rounds_work o + (4 + work carry)

abbrev pub delete_work : Deleting → ℕ
delete_work (deleting.Lookup id) = 4
delete_work (deleting.LookingUp id) = 4
delete_work (deleting.End id b) = 3
delete_work (deleting.Ending id b) = 3
delete_work (deleting.Quit c path) = 2
delete_work (deleting.Free c q) = 1
delete_work (deleting.Freeing q) = 1

abbrev pub relay_work : Relaying → ℕ
relay_work (relaying.Lookup id target) = 3
relay_work (relaying.LookingUp id target) = 3
relay_work (relaying.Touch id b address target) = 2
relay_work (relaying.Touching id b address target) = 2
relay_work (relaying.Exchange address target) = 1

abbrev pub run_work : Run → Outlook → ℕ
run_work (run.Calling c) o = 1
run_work (run.Deleting d) o = delete_work d
run_work (run.Relaying r) o = relay_work r
run_work (run.Creating c) o = create_work c o

-- nothing where the script is over
abbrev pub turn_work : Turn → Outlook → ℕ
turn_work (turn.Go next short) o = run_work next o
turn_work t o = 0

-- Each pause is one answer and the withdrawal behind it, and after the last one a session may be ended.
abbrev pub undo_work : Undoing → Outlook → ℕ
undo_work (undoing.Withdraw t) o = 2 * o.pauses + 5
undo_work undoing.Withdrawing o = 2 * o.pauses + 5
undo_work (undoing.Waiting t) o = 2 * o.pauses + 4
undo_work (undoing.End s b) o = 3
undo_work (undoing.Ending s b) o = 3
undo_work (undoing.Quit c path) o = 2
undo_work (undoing.Free c) o = 1
undo_work undoing.Freeing o = 1
undo_work undoing.Over o = 0

-- ---- what an answer has to do to the outlook

abbrev pub QueueLowers : Enqueued → (after : Outlook) → Type 0
QueueLowers (enqueued.Queued t) after = IsWithin after
QueueLowers answer after = Unit {0}

-- a request that waits has its deadline ahead, and one that was given a slot may be given so many fewer
abbrev pub PollLowers : Polled → (before after : Outlook) → Type 0
PollLowers (polled.NotYet t) before after = NoMore before after
PollLowers (polled.Memory t) before after = NoMore before after
PollLowers (polled.Yours t r) before after = FewerStarts before after
PollLowers (polled.Settled o) before after = Unit {0}

abbrev pub WithdrawLowers : Withdrawing → (before after : Outlook) → Type 0
WithdrawLowers (withdrawing.NotYet t) before after = NoMore before after
WithdrawLowers answer before after = Unit {0}

abbrev pub HubLowers : HubAnswer → (before after : Outlook) → Type 0
HubLowers (answers.Enqueue a) before after = QueueLowers a after
HubLowers (answers.Poll a) before after = PollLowers a before after
HubLowers (answers.Withdraw a) before after = WithdrawLowers a before after
HubLowers (answers.Bind a) before after = NoMore before after
HubLowers (answers.Fail a) before after = NoMore before after
HubLowers answers.Freed before after = NoMore before after
HubLowers answer before after = Unit {0}

-- Bytes come, and bytes are taken. A slot that is reserved for the request is one start fewer, and a pause one pause fewer. All else that
-- comes while a request waits leaves no more than there was, and the outlook of a new one is within limits.
abbrev pub Lowers : Answer → (before after : Outlook) → Type 0
Lowers (told.Bytes bytes) before after = 0 < length bytes.now
Lowers (told.Wrote n) before after = 0 < n
Lowers (told.Hub answer) before after = HubLowers answer before after
Lowers (told.Node came) before after = NoMore before after
Lowers told.Paused before after = FewerPauses before after
Lowers told.Gone before after = NoMore before after
Lowers answer before after = Unit {0}

-- ---- what an answer does

-- the script is over
abbrev pub IsOverTurn : Turn → Type 0
IsOverTurn t = (o : Outlook) → turn_work t o ≡ 0

-- whatever the outlook, less than so much is left
abbrev pub IsBelow : ℕ → Turn → Type 0
IsBelow n t = (o : Outlook) → turn_work t o < n

abbrev pub QueuesLess : HubAnswer → Turn → Type 0
QueuesLess answer t = (before after : Outlook) → HubLowers answer before after → turn_work t after < queue_work

abbrev pub PollsLess : HubAnswer → Turn → Type 0
PollsLess answer t = (before after : Outlook) → HubLowers answer before after → turn_work t after < rounds_work before + 3

abbrev pub StartsLess : Carry → Turn → Type 0
StartsLess carry t = (o : Outlook) → turn_work t o < rounds_work o + (4 + work carry)

abbrev pub StartAnswersLess : Carry → HubAnswer → Turn → Type 0
StartAnswersLess carry answer t = (before after : Outlook) → HubLowers answer before after → turn_work t after < rounds_work before + (4 + work carry)

-- less is left than before
abbrev pub RunsLess : Run → Answer → Turn → Type 0
RunsLess old answer t = (before after : Outlook) → Lowers answer before after → turn_work t after < run_work old before

-- what is left to do after a request is given up, or for a session that is ended
abbrev pub UndoesLess : Undoing → Answer → Undoing → Type 0
UndoesLess old answer next = (before after : Outlook) → Lowers answer before after → undo_work next after < undo_work old before

-- whatever the outlook, less than so much is left
abbrev pub UndoesBelow : ℕ → Undoing → Type 0
UndoesBelow n next = (o : Outlook) → undo_work next o < n

-- behind a withdrawal
abbrev pub WithdrawsLess : HubAnswer → Undoing → Type 0
WithdrawsLess answer next = (before after : Outlook) → HubLowers answer before after → undo_work next after < 2 * before.pauses + 5

-- a New Session that is given up pays for its withdrawal, all but this
abbrev pub LeavesLittle : Run → Undoing → Type 0
LeavesLittle old next = (before after : Outlook) → NoMore before after → undo_work next after ≤ run_work old before + 3

-- as much as before
abbrev pub KeepsWork : Run → Run → Type 0
KeepsWork old new = (o : Outlook) → run_work new o ≡ run_work old o

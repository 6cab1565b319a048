-- That each answer lowers what is left to do.
use Rattle.std.proofs.Common.{ℕ, ◌+◌, ◌*◌, ◌^◌, ◌<◌, ◌≤◌, Bool, true, false, sym, subst, arith}
use Rattle.hub_core.specs.declared.answers.Binding.{Binding}
use Rattle.hub_core.specs.declared.answers.Failing.{Failing}
use Rattle.hub_core.specs.declared.answers.Enqueued.TheVariants as enqueued
use Rattle.hub_core.specs.declared.answers.Polled.TheVariants as polled
use Rattle.grid_types.specs.Tokens.{Ticket, Reservation}
use Rattle.node_client.specs.declared.carry.Carry.{Carry}
use Rattle.node_client.specs.Carrying.{work}
use Rattle.conn_script.specs.declared.creating.Creating.TheVariants as creating
use Rattle.conn_script.specs.declared.turn.Run.TheVariants as run
use Rattle.conn_script.specs.declared.turn.Turn.{Turn}
use Rattle.conn_script.specs.declared.turn.Turn.TheVariants as turn
use Rattle.conn_script.specs.declared.wants.HubAnswer.{HubAnswer}
use Rattle.conn_script.specs.declared.wants.HubAnswer.TheVariants as answers
use Rattle.conn_script.specs.Work.{Outlook, NoMore, FewerPauses, rounds_work, queue_work, turn_work, IsOverTurn, IsBelow, QueuesLess, PollsLess, StartsLess, StartAnswersLess}

-- a script that is over has less left than any that is not
pub none_below : (t : Turn) (n : ℕ) → IsOverTurn t → 0 < n → IsBelow n t
none_below t n over some o = subst (λ (k : ℕ). k < n) (sym (over o)) some

-- ---- rounds, as numbers

no_more : (s u p q w : ℕ) → u ≤ s → q ≤ p → (8 * u + 4 * q) + (4 + w) ≤ (8 * s + 4 * p) + (4 + w)
no_more s u p q w a b = omega arith

start_fewer : (s u p q w : ℕ) → u < s → q ≤ p → w ≤ 4 → (8 * u + 4 * q) + (4 + w) < (8 * s + 4 * p) + 3
start_fewer s u p q w a b c = omega arith

pause_fewer : (s u p q : ℕ) → u ≤ s → q < p → (8 * u + 4 * q) + 3 < (8 * s + 4 * p) + 2
pause_fewer s u p q a b = omega arith

wait_less : (s u p q : ℕ) → u ≤ s → q ≤ p → (8 * u + 4 * q) + 2 < (8 * s + 4 * p) + 3
wait_less s u p q a b = omega arith

queue_fits : (s p : ℕ) → s ≤ 2 ^ 32 → p ≤ 2 ^ 64 → (8 * s + 4 * p) + 3 < 2 ^ 70
queue_fits s p a b = omega arith

below : (m n k : ℕ) → m < n → n ≤ k → m < k
below m n k a b = omega arith

some_left : (m n : ℕ) → 0 < m + (4 + n)
some_left m n = omega arith

some_round : (m : ℕ) → 0 < m + 3
some_round m = omega arith

-- ---- the new request

pub queued_less : (t : Ticket) → QueuesLess (answers.Enqueue (enqueued.Queued t)) (turn.Go (run.Creating (creating.Poll t)) false)
queued_less t before after h = queue_fits after.starts after.pauses h.0 h.1

pub over_queues : (a : HubAnswer) (t : Turn) → IsOverTurn t → QueuesLess a t
over_queues a t over before after h = none_below t queue_work over (omega arith) after

-- ---- polls

pub not_yet_less : (t : Ticket) → PollsLess (answers.Poll (polled.NotYet t)) (turn.Go (run.Creating (creating.Pausing t)) false)
not_yet_less t before after h = wait_less before.starts after.starts before.pauses after.pauses h.0 h.1

pub memory_less : (t : Ticket) → PollsLess (answers.Poll (polled.Memory t)) (turn.Go (run.Creating (creating.Pausing t)) true)
memory_less t before after h = wait_less before.starts after.starts before.pauses after.pauses h.0 h.1

pub yours_less : (t : Ticket) (r : Reservation) (carry : Carry) → ((c : Carry) → work c ≤ 4) →
    PollsLess (answers.Poll (polled.Yours t r)) (turn.Go (run.Creating (creating.Starting t carry)) false)
yours_less t r carry few before after h =
    start_fewer before.starts after.starts before.pauses after.pauses (work carry) h.0 h.1 (few carry)

pub over_polls : (a : HubAnswer) (t : Turn) → IsOverTurn t → PollsLess a t
over_polls a t over before after h = none_below t (rounds_work before + 3) over (some_round (rounds_work before)) after

-- ---- a start

pub over_starts : (carry : Carry) (t : Turn) → IsOverTurn t → StartsLess carry t
over_starts carry t over o = none_below t (rounds_work o + (4 + work carry)) over (some_left (rounds_work o) (work carry)) o

polls_then : (m w : ℕ) → m + 3 < m + (4 + w)
polls_then m w = omega arith

goes_on : (m v w : ℕ) → v < w → m + (4 + v) < m + (4 + w)
goes_on m v w h = omega arith

pub start_over_less : (t : Ticket) (old : Carry) (short : Bool) → StartsLess old (turn.Go (run.Creating (creating.Poll t)) short)
start_over_less t old short o = polls_then (rounds_work o) (work old)

pub start_open_less : (t : Ticket) (old new : Carry) → work new < work old → StartsLess old (turn.Go (run.Creating (creating.Starting t new)) false)
start_open_less t old new h o = goes_on (rounds_work o) (work new) (work old) h

-- the same with an outlook that leaves no more
pub starts_less : (carry : Carry) (t : Turn) (before after : Outlook) → StartsLess carry t → NoMore before after →
    turn_work t after < rounds_work before + (4 + work carry)
starts_less carry t before after less h =
    below (turn_work t after) (rounds_work after + (4 + work carry)) (rounds_work before + (4 + work carry)) (less after)
    (no_more before.starts after.starts before.pauses after.pauses (work carry) h.0 h.1)

pub bind_less : (carry : Carry) (b : Binding) (t : Turn) → StartsLess carry t → StartAnswersLess carry (answers.Bind b) t
bind_less carry b t less before after h = starts_less carry t before after less h

pub fail_less : (carry : Carry) (f : Failing) (t : Turn) → StartsLess carry t → StartAnswersLess carry (answers.Fail f) t
fail_less carry f t less before after h = starts_less carry t before after less h

pub freed_less : (carry : Carry) (t : Turn) → StartsLess carry t → StartAnswersLess carry answers.Freed t
freed_less carry t less before after h = starts_less carry t before after less h

pub spent_less : (carry : Carry) (a : HubAnswer) (t : Turn) → IsOverTurn t → StartAnswersLess carry a t
spent_less carry a t over before after h =
    none_below t (rounds_work before + (4 + work carry)) over (some_left (rounds_work before) (work carry)) after

-- ---- a pause

pub pause_less : (t : Ticket) (before after : Outlook) → FewerPauses before after → rounds_work after + 3 < rounds_work before + 2
pause_less t before after h = pause_fewer before.starts after.starts before.pauses after.pauses h.0 h.1

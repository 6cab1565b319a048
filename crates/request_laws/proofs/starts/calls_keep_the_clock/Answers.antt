use Rattle.request_laws.proofs.ClockLemmas.{keeps_clock, queued_deadline}
use Rattle.request_laws.proofs.starts.calls_keep_the_clock.Goals as goal

pub returns-clause-clock : goal.returns-clause-clock
returns-clause-clock c = keeps_clock

pub returns-clause-queued : goal.returns-clause-queued
returns-clause-queued c = queued_deadline

use Rattle.conn_script.proofs.CreateLemmas.{enqueue_queued, enqueue_refused}
use Rattle.conn_script.specs.declared.wants.HubAnswer.TheVariants as answers
use Rattle.conn_script.proofs.WorkLemmas.{queued_less, over_queues}
use Rattle.conn_script.proofs.creating.enqueue_told.Goals as goal

pub returns-in-Queued-clause-turns : goal.returns-in-Queued-clause-turns
returns-in-Queued-clause-turns c = rw c.in-Queued.is (enqueue_queued c.in-Queued.ticket c.args.close)

pub returns-in_default-clause-turns : goal.returns-in_default-clause-turns
returns-in_default-clause-turns c = rw c.respond.ensures.turn (enqueue_refused c.args.answer c.args.close c.enqueue_refusal.result c.in_default.not-Queued c.enqueue_refusal.ensures)

pub returns-in-Queued-clause-less : goal.returns-in-Queued-clause-less
returns-in-Queued-clause-less c = rw c.in-Queued.is (queued_less c.in-Queued.ticket)

pub returns-in_default-clause-less : goal.returns-in_default-clause-less
returns-in_default-clause-less c = over_queues (answers.Enqueue c.args.answer) c.respond.result c.respond.ensures.over

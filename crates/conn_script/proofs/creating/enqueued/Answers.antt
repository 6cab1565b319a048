use Rattle.conn_script.proofs.CreateLemmas.{enqueue_else}
use Rattle.conn_script.proofs.WorkLemmas.{over_queues}
use Rattle.conn_script.proofs.creating.enqueued.Goals as goal

pub returns-in-Enqueue-clause-turns : goal.returns-in-Enqueue-clause-turns
returns-in-Enqueue-clause-turns c = rw c.in-Enqueue.is c.enqueue_told.ensures.turns

pub returns-in_default-clause-turns : goal.returns-in_default-clause-turns
returns-in_default-clause-turns c = enqueue_else c.args.answer c.unanswered.result c.args.close c.requires c.in_default.not-Enqueue c.unanswered.ensures.turn

pub returns-in-Enqueue-clause-less : goal.returns-in-Enqueue-clause-less
returns-in-Enqueue-clause-less c = rw c.in-Enqueue.is c.enqueue_told.ensures.less

pub returns-in_default-clause-less : goal.returns-in_default-clause-less
returns-in_default-clause-less c = over_queues c.args.answer c.unanswered.result c.unanswered.ensures.over

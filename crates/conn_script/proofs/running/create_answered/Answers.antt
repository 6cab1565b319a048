use Rattle.conn_script.proofs.MoveLemmas.{enqueue_moves, poll_moves, start_moves}
use Rattle.conn_script.proofs.running.create_answered.Goals as goal

pub returns-in-Enqueuing : goal.returns-in-Enqueuing
returns-in-Enqueuing c = rw c.in-Enqueuing.is (enqueue_moves c.args.answer c.args.close c.enqueued.result c.enqueued.ensures.turns c.enqueued.ensures.ready c.enqueued.ensures.less)

pub returns-in-Polling : goal.returns-in-Polling
returns-in-Polling c = rw c.in-Polling.is (poll_moves c.in-Polling.request c.args.answer c.args.close c.polled.result c.polled.ensures.turns c.polled.ensures.ready c.polled.ensures.less)

pub returns-in-Starting : goal.returns-in-Starting
returns-in-Starting c =
    rw c.in-Starting.is (start_moves c.in-Starting.ticket c.in-Starting.carry c.args.answer c.args.close c.start_answered.result c.start_answered.ensures.turns c.start_answered.ensures.ready c.start_answered.ensures.less)

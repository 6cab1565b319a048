use Rattle.conn_script.proofs.MoveLemmas.{pause_moves}
use Rattle.conn_script.proofs.running.create_paused.Goals as goal

pub returns : goal.returns
returns c = rw c.in-Pausing.is (pause_moves c.in-Pausing.ticket c.args.close c.polls_again.result c.polls_again.ensures.turns c.polls_again.ensures.ready c.polls_again.ensures.next)

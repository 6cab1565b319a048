use Rattle.conn_script.proofs.MoveLemmas.{call_moves}
use Rattle.conn_script.proofs.running.calling_answered.Goals as goal

pub returns : goal.returns
returns c = rw c.in-Asked.is (call_moves c.in-Asked.asked c.args.answer c.args.close c.call_answered.result c.call_answered.ensures.turns c.call_answered.ensures.ready c.call_answered.ensures.over)

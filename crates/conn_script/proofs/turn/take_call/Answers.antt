use Rattle.conn_script.proofs.CallLemmas.{call_taken}
use Rattle.conn_script.proofs.turn.take_call.Goals as goal

pub returns : goal.returns
returns c = rw c.in-Ask.is (call_taken c.in-Ask.call c.in-Ask.asked)

use Rattle.conn_script.proofs.MoveLemmas.{relay_moves}
use Rattle.conn_script.proofs.running.relay_exchanged.Goals as goal

pub returns : goal.returns
returns c = rw c.in-Exchange.is (relay_moves c.in-Exchange.field-0 c.in-Exchange.field-1 c.args.came c.args.close c.exchanged.result c.exchanged.ensures.turns c.exchanged.ensures.ready c.exchanged.ensures.over)

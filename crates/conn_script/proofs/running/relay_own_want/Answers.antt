use Rattle.conn_script.proofs.WantLemmas.{relay_asks}
use Rattle.conn_script.proofs.running.relay_own_want.Goals as goal

pub returns-in_default : goal.returns-in_default
returns-in_default c = relay_asks c.args.relaying.now c.requires c.in_default.not-Exchange

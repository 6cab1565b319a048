use Rattle.conn_script.proofs.WantLemmas.{for_any, relay_asks}
use Rattle.conn_script.proofs.running.relay_wanted.Goals as goal

pub returns-in_default : goal.returns-in_default
returns-in_default c = for_any _ c.args.whole _ (relay_asks c.args.relaying.now c.requires c.in_default.not-Exchange)

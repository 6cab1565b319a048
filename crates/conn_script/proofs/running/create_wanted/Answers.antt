use Rattle.conn_script.proofs.WantLemmas.{create_asks}
use Rattle.conn_script.proofs.running.create_wanted.Goals as goal

pub returns-in_default : goal.returns-in_default
returns-in_default c = create_asks c.args.creating.now c.requires c.in_default.not-Pausing c.in_default.not-Starting

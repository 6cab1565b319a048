use Rattle.conn_script.proofs.WantLemmas.{delete_asks}
use Rattle.conn_script.proofs.running.delete_wanted.Goals as goal

pub returns-in_default : goal.returns-in_default
returns-in_default c = delete_asks c.args.deleting.now c.requires c.in_default.not-Quit

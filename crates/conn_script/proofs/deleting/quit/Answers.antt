use Rattle.conn_script.proofs.DeleteLemmas.{quit_turns}
use Rattle.conn_script.proofs.deleting.quit.Goals as goal

pub returns-clause-turns : goal.returns-clause-turns
returns-clause-turns c = quit_turns c.args.closing c.args.came.now c.what_came-quitted.result c.is_lack.result c.what_came-quitted.ensures c.is_lack.ensures

use Rattle.conn_script.proofs.MoveLemmas.{quit_moves}
use Rattle.conn_script.proofs.running.delete_exchanged.Goals as goal

pub returns : goal.returns
returns c = rw c.in-Quit.is (quit_moves c.in-Quit.closing c.in-Quit.field-1 c.args.came.now c.args.close c.quit.result c.quit.ensures.turns c.quit.ensures.ready c.quit.ensures.less)

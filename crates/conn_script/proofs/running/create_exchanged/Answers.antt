use Rattle.conn_script.proofs.MoveLemmas.{start_moves_by_exchange}
use Rattle.conn_script.proofs.running.create_exchanged.Goals as goal

pub returns : goal.returns
returns c =
    rw c.in-Starting.is (start_moves_by_exchange c.in-Starting.ticket c.in-Starting.carry c.args.came c.args.close c.start_told.result c.start_told.ensures.turns c.start_told.ensures.ready c.start_told.ensures.less)

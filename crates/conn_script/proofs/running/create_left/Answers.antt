use Rattle.conn_script.proofs.MoveLemmas.{leaves}
use Rattle.conn_script.proofs.running.create_left.Goals as goal

pub returns : goal.returns
returns c = rw c.in-Pausing.is (leaves c.in-Pausing.ticket)

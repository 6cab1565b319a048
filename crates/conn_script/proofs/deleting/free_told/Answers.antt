use Rattle.conn_script.proofs.DeleteLemmas.{free_done}
use Rattle.conn_script.proofs.deleting.free_told.Goals as goal

pub returns-clause-turns : goal.returns-clause-turns
returns-clause-turns c = rw c.respond.ensures.turn (free_done c.args.quitted c.args.close c.quit_response.result c.quit_response.ensures)

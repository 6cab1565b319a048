use Rattle.conn_script.proofs.MoveLemmas.{lookup_moves, end_moves, free_moves}
use Rattle.conn_script.proofs.running.delete_answered.Goals as goal

pub returns-in-LookingUp : goal.returns-in-LookingUp
returns-in-LookingUp c = rw c.in-LookingUp.is (lookup_moves c.in-LookingUp.session c.args.answer c.args.close c.looked_up.result c.looked_up.ensures.turns c.looked_up.ensures.ready c.looked_up.ensures.less)

pub returns-in-Ending : goal.returns-in-Ending
returns-in-Ending c = rw c.in-Ending.is (end_moves c.in-Ending.session c.in-Ending.binding c.args.answer c.args.close c.ended.result c.ended.ensures.turns c.ended.ensures.ready c.ended.ensures.less)

pub returns-in-Freeing : goal.returns-in-Freeing
returns-in-Freeing c = rw c.in-Freeing.is (free_moves c.in-Freeing.quitted c.args.answer c.args.close c.freed.result c.freed.ensures.turns c.freed.ensures.ready c.freed.ensures.over)

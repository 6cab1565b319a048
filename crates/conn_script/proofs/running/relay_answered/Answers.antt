use Rattle.conn_script.proofs.MoveLemmas.{find_moves, touch_moves}
use Rattle.conn_script.proofs.running.relay_answered.Goals as goal

pub returns-in-LookingUp : goal.returns-in-LookingUp
returns-in-LookingUp c = rw c.in-LookingUp.is (find_moves c.in-LookingUp.session c.in-LookingUp.target c.args.answer c.args.close c.node_found.result c.node_found.ensures.turns c.node_found.ensures.ready c.node_found.ensures.less)

pub returns-in-Touching : goal.returns-in-Touching
returns-in-Touching c =
    rw c.in-Touching.is (touch_moves c.in-Touching.session c.in-Touching.binding c.in-Touching.address c.in-Touching.target c.args.answer c.args.close c.touched.result
    c.touched.ensures.turns c.touched.ensures.ready c.touched.ensures.less)

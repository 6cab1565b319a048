use Rattle.std.proofs.Common.{arith}
use Rattle.conn_script.proofs.RouteLemmas.{node_asked, no_node_asked}
use Rattle.conn_script.proofs.routing.ask_node.Goals as goal

pub returns-in-Some-clause-turns : goal.returns-in-Some-clause-turns
returns-in-Some-clause-turns c =
    rw c.ask.ensures (node_asked c.args.asked c.args.id.now c.in-Some.node c.call_for.result c.args.close c.requires (grind arith) c.in-Some.ensures c.call_for.ensures)

pub returns-in-None-clause-turns : goal.returns-in-None-clause-turns
returns-in-None-clause-turns c = rw c.respond.ensures.turn (no_node_asked c.args.asked c.args.id.now c.args.close c.no_such_node.result c.in-None.ensures c.no_such_node.ensures)

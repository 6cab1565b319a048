use Rattle.std.proofs.Common.{arith}
use Rattle.conn_script.proofs.RouteLemmas.{beat_unnamed}
use Rattle.conn_script.proofs.routing.beat.Goals as goal

pub returns-in-Some-clause-turns : goal.returns-in-Some-clause-turns
returns-in-Some-clause-turns c = c.beat_of.ensures.turns c.args.id.now (grind arith, c.in-Some.ensures)

pub returns-in-None-clause-turns : goal.returns-in-None-clause-turns
returns-in-None-clause-turns c =
    rw c.respond.ensures.turn (beat_unnamed c.args.id.now c.args.body.now c.args.close c.no_such_node.result c.in-None.ensures c.no_such_node.ensures)

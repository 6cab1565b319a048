use Rattle.conn_script.proofs.RouteLemmas.{beat_asked}
use Rattle.conn_script.proofs.routing.beat_of.Goals as goal

pub returns-in-Ok-clause-turns : goal.returns-in-Ok-clause-turns
returns-in-Ok-clause-turns c = λ id names.
    rw c.ask.ensures (beat_asked id c.args.body.now c.args.node c.in-Ok.name c.beat_call.result c.args.close names c.in-Ok.ensures.ok c.beat_call.ensures)

pub returns-in-Err-clause-turns : goal.returns-in-Err-clause-turns
returns-in-Err-clause-turns c = λ id names. c.beat_refused.ensures.turns id c.args.body.now c.args.node names c.in-Err.ensures.err

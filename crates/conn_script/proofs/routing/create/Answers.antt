use Rattle.conn_script.proofs.RouteLemmas.{create_asked}
use Rattle.conn_script.proofs.routing.create.Goals as goal

pub returns-in-Ok-clause-turns : goal.returns-in-Ok-clause-turns
returns-in-Ok-clause-turns c = create_asked c.args.body.now c.in-Ok.choices c.args.close c.in-Ok.ensures.ok

pub returns-in-Err-clause-turns : goal.returns-in-Err-clause-turns
returns-in-Err-clause-turns c = c.capabilities_refused.ensures.turns c.args.body.now c.in-Err.ensures.err

use Rattle.conn_script.proofs.RouteLemmas.{register_asked}
use Rattle.conn_script.proofs.routing.register.Goals as goal

pub returns-in-Ok-clause-turns : goal.returns-in-Ok-clause-turns
returns-in-Ok-clause-turns c = rw c.ask.ensures (register_asked c.args.body.now c.in-Ok.node c.args.close c.in-Ok.ensures.ok
    (c.registrations_are_well_sized.ensures c.args.body.now c.in-Ok.node c.in-Ok.ensures.ok))

pub returns-in-Err-clause-turns : goal.returns-in-Err-clause-turns
returns-in-Err-clause-turns c = c.registration_refused.ensures.turns c.args.body.now c.in-Err.ensures.err

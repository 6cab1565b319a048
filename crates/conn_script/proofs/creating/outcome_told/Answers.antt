use Rattle.conn_script.proofs.CreateLemmas.{outcome_created, outcome_undo, outcome_other}
use Rattle.conn_script.proofs.creating.outcome_told.Goals as goal

pub returns-in-Ok-clause-turns : goal.returns-in-Ok-clause-turns
returns-in-Ok-clause-turns c = outcome_created c.args.request c.args.outcome.now c.in-Created.session c.in-Created.caps c.in-Created.slot c.in-Created.address c.in-Created.binding c.args.close c.in-Ok.bytes c.in-Created.is c.in-Ok.ensures

pub returns-in-Err-clause-turns : goal.returns-in-Err-clause-turns
returns-in-Err-clause-turns c = outcome_undo c.args.request c.args.outcome.now c.in-Created.session c.in-Created.caps c.in-Created.slot c.in-Created.address c.in-Created.binding c.args.close c.in-Created.is

pub returns-in_default-clause-turns : goal.returns-in_default-clause-turns
returns-in_default-clause-turns c = rw c.respond.ensures.turn (outcome_other c.args.request c.args.outcome.now c.args.close c.settled-response.result c.in_default.not-Created c.settled-response.ensures)

use Rattle.conn_script.proofs.CreateLemmas.{poll_else}
use Rattle.conn_script.proofs.WorkLemmas.{over_polls}
use Rattle.conn_script.proofs.creating.polled.Goals as goal

pub returns-in-Poll-clause-turns : goal.returns-in-Poll-clause-turns
returns-in-Poll-clause-turns c = rw c.in-Poll.is c.poll_told.ensures.turns

pub returns-in_default-clause-turns : goal.returns-in_default-clause-turns
returns-in_default-clause-turns c = poll_else c.args.request c.args.answer c.unanswered.result c.args.close c.requires c.in_default.not-Poll c.unanswered.ensures.turn

pub returns-in-Poll-clause-less : goal.returns-in-Poll-clause-less
returns-in-Poll-clause-less c = rw c.in-Poll.is c.poll_told.ensures.less

pub returns-in_default-clause-less : goal.returns-in_default-clause-less
returns-in_default-clause-less c = over_polls c.args.answer c.unanswered.result c.unanswered.ensures.over

use Rattle.conn_script.proofs.CreateLemmas.{poll_not_yet, poll_memory, poll_yours}
use Rattle.conn_script.specs.declared.wants.HubAnswer.TheVariants as answers
use Rattle.conn_script.proofs.WorkLemmas.{not_yet_less, memory_less, yours_less, over_polls}
use Rattle.conn_script.proofs.creating.poll_told.Goals as goal

pub returns-in-NotYet-clause-turns : goal.returns-in-NotYet-clause-turns
returns-in-NotYet-clause-turns c = rw c.in-NotYet.is (poll_not_yet c.args.request c.in-NotYet.ticket c.args.close)

pub returns-in-Memory-clause-turns : goal.returns-in-Memory-clause-turns
returns-in-Memory-clause-turns c = rw c.in-Memory.is (poll_memory c.args.request c.in-Memory.ticket c.args.close)

pub returns-in-Yours-clause-turns : goal.returns-in-Yours-clause-turns
returns-in-Yours-clause-turns c = rw c.in-Yours.is (poll_yours c.args.request c.in-Yours.ticket c.in-Yours.reservation c.new-carry.result c.args.close c.new-carry.ensures)

pub returns-in-Settled-clause-turns : goal.returns-in-Settled-clause-turns
returns-in-Settled-clause-turns c = rw c.in-Settled.is c.outcome_told.ensures.turns

pub returns-in-NotYet-clause-less : goal.returns-in-NotYet-clause-less
returns-in-NotYet-clause-less c = rw c.in-NotYet.is (not_yet_less c.in-NotYet.ticket)

pub returns-in-Memory-clause-less : goal.returns-in-Memory-clause-less
returns-in-Memory-clause-less c = rw c.in-Memory.is (memory_less c.in-Memory.ticket)

pub returns-in-Yours-clause-less : goal.returns-in-Yours-clause-less
returns-in-Yours-clause-less c = rw c.in-Yours.is (yours_less c.in-Yours.ticket c.in-Yours.reservation c.new-carry.result c.starts_are_short.ensures)

pub returns-in-Settled-clause-less : goal.returns-in-Settled-clause-less
returns-in-Settled-clause-less c = over_polls (answers.Poll c.args.answer) c.outcome_told.result c.outcome_told.ensures.over

use Rattle.conn_script.proofs.StartLemmas.{bind_answered, fail_answered}
use Rattle.conn_script.proofs.WorkLemmas.{bind_less, fail_less}
use Rattle.conn_script.proofs.creating.start_answered.Goals as goal

pub returns-in-Bind-clause-turns : goal.returns-in-Bind-clause-turns
returns-in-Bind-clause-turns c = rw c.in-Bind.is (bind_answered c.args.ticket c.args.carry c.in-Bind.binding c.start_told.result c.start_told.ensures.turns)

pub returns-in-Fail-clause-turns : goal.returns-in-Fail-clause-turns
returns-in-Fail-clause-turns c = rw c.in-Fail.is (fail_answered c.args.ticket c.args.carry c.in-Fail.failing c.start_told-in-Fail.result c.start_told-in-Fail.ensures.turns)

pub returns-in-Bind-clause-less : goal.returns-in-Bind-clause-less
returns-in-Bind-clause-less c = rw c.in-Bind.is (bind_less c.args.carry c.in-Bind.binding c.start_told.result c.start_told.ensures.less)

pub returns-in-Fail-clause-less : goal.returns-in-Fail-clause-less
returns-in-Fail-clause-less c = rw c.in-Fail.is (fail_less c.args.carry c.in-Fail.failing c.start_told-in-Fail.result c.start_told-in-Fail.ensures.less)

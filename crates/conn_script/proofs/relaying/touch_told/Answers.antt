use Rattle.std.proofs.Common.{arith}
use Rattle.conn_script.proofs.RelayLemmas.{touch_touched, touch_none}
use Rattle.conn_script.proofs.WorkLemmas.{none_below}
use Rattle.conn_script.proofs.relaying.touch_told.Goals as goal

pub returns-in-Touched-clause-turns : goal.returns-in-Touched-clause-turns
returns-in-Touched-clause-turns c = λ id b. rw c.in-Touched.is (touch_touched id b c.args.address c.args.target c.args.close)

pub returns-in-NoSession-clause-turns : goal.returns-in-NoSession-clause-turns
returns-in-NoSession-clause-turns c = λ id b. rw c.in-NoSession.is (rw c.respond.ensures.turn (touch_none id b c.args.address c.args.target c.args.close c.no_such_session.result c.no_such_session.ensures))

pub returns-in-NoSession-clause-less : goal.returns-in-NoSession-clause-less
returns-in-NoSession-clause-less c = none_below c.respond.result 2 c.respond.ensures.over (omega arith)

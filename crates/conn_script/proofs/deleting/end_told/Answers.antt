use Rattle.std.proofs.Common.{arith}
use Rattle.conn_script.proofs.DeleteLemmas.{end_ended, end_none}
use Rattle.conn_script.proofs.WorkLemmas.{none_below}
use Rattle.conn_script.proofs.deleting.end_told.Goals as goal

pub returns-in-Ended-clause-turns : goal.returns-in-Ended-clause-turns
returns-in-Ended-clause-turns c = λ b. rw c.in-Ended.is (end_ended c.args.session.now b c.in-Ended.closing c.of-path.result c.args.close c.of-path.ensures)

pub returns-in-NoSession-clause-turns : goal.returns-in-NoSession-clause-turns
returns-in-NoSession-clause-turns c = λ b. rw c.in-NoSession.is (rw c.respond.ensures.turn (end_none c.args.session.now b c.args.close c.no_such_session.result c.no_such_session.ensures))

pub returns-in-NoSession-clause-less : goal.returns-in-NoSession-clause-less
returns-in-NoSession-clause-less c = none_below c.respond.result 3 c.respond.ensures.over (omega arith)

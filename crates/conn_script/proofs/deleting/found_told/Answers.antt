use Rattle.std.proofs.Common.{arith}
use Rattle.conn_script.proofs.DeleteLemmas.{lookup_found, lookup_none}
use Rattle.conn_script.proofs.WorkLemmas.{none_below}
use Rattle.conn_script.proofs.deleting.found_told.Goals as goal

pub returns-in-At-clause-turns : goal.returns-in-At-clause-turns
returns-in-At-clause-turns c = rw c.in-At.is (lookup_found c.args.session c.in-At.slot c.in-At.address c.in-At.binding c.args.close)

pub returns-in-NoSession-clause-turns : goal.returns-in-NoSession-clause-turns
returns-in-NoSession-clause-turns c = rw c.in-NoSession.is (rw c.respond.ensures.turn (lookup_none c.args.session c.args.close c.no_such_session.result c.no_such_session.ensures))

pub returns-in-NoSession-clause-less : goal.returns-in-NoSession-clause-less
returns-in-NoSession-clause-less c = none_below c.respond.result 4 c.respond.ensures.over (omega arith)

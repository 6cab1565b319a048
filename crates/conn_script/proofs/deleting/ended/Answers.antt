use Rattle.std.proofs.Common.{arith}
use Rattle.conn_script.proofs.DeleteLemmas.{end_else}
use Rattle.conn_script.proofs.WorkLemmas.{none_below}
use Rattle.conn_script.proofs.deleting.ended.Goals as goal

pub returns-in-End-clause-turns : goal.returns-in-End-clause-turns
returns-in-End-clause-turns c = rw c.in-End.is (c.end_told.ensures.turns c.args.binding)

pub returns-in_default-clause-turns : goal.returns-in_default-clause-turns
returns-in_default-clause-turns c = end_else c.args.session c.args.binding c.args.answer c.unanswered.result c.args.close c.requires c.in_default.not-End c.unanswered.ensures.turn

pub returns-in_default-clause-less : goal.returns-in_default-clause-less
returns-in_default-clause-less c = none_below c.unanswered.result 3 c.unanswered.ensures.over (omega arith)

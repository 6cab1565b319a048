use Rattle.std.proofs.Common.{arith}
use Rattle.conn_script.proofs.RelayLemmas.{touch_else}
use Rattle.conn_script.proofs.WorkLemmas.{none_below}
use Rattle.conn_script.proofs.relaying.touched.Goals as goal

pub returns-in-Touch-clause-turns : goal.returns-in-Touch-clause-turns
returns-in-Touch-clause-turns c = rw c.in-Touch.is (c.touch_told.ensures.turns c.args.session c.args.binding)

pub returns-in_default-clause-turns : goal.returns-in_default-clause-turns
returns-in_default-clause-turns c = touch_else c.args.session c.args.binding c.args.address c.args.target c.args.answer c.unanswered.result c.args.close c.requires c.in_default.not-Touch c.unanswered.ensures.turn

pub returns-in_default-clause-less : goal.returns-in_default-clause-less
returns-in_default-clause-less c = none_below c.unanswered.result 2 c.unanswered.ensures.over (omega arith)

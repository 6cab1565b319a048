use Rattle.conn_script.proofs.CallLemmas.{call_is_spent}
use Rattle.conn_script.proofs.AnswerLemmas.{call_turns}
use Rattle.conn_script.proofs.calling.call_answered.Goals as goal

pub returns-in-Spent-clause-turns : goal.returns-in-Spent-clause-turns
returns-in-Spent-clause-turns c = rw c.in-Spent.is (rw c.respond_last.ensures.turn (call_is_spent c.args.asked c.in-Spent.field-0 c.args.close c.hub_spent.result c.hub_spent.ensures))

pub returns-in_default-clause-turns : goal.returns-in_default-clause-turns
returns-in_default-clause-turns c = rw c.respond.ensures.turn (call_turns c.args.asked c.args.answer c.args.close c.response_to.result c.requires c.in_default.not-Spent c.response_to.ensures)

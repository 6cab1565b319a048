use Rattle.conn_script.proofs.DeleteLemmas.{free_spent, free_else}
use Rattle.conn_script.proofs.deleting.freed.Goals as goal

pub returns-in-Spent-clause-turns : goal.returns-in-Spent-clause-turns
returns-in-Spent-clause-turns c = rw c.in-Spent.is (free_spent c.args.quitted c.in-Spent.field-0 c.free_spent.result c.args.close c.free_spent.ensures.turns)

pub returns-in_default-clause-turns : goal.returns-in_default-clause-turns
returns-in_default-clause-turns c = free_else c.args.quitted c.args.answer c.free_told.result c.args.close c.requires c.in_default.not-Spent c.free_told.ensures.turns

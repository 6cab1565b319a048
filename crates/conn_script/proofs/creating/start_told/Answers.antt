use Rattle.conn_script.proofs.StartLemmas.{told_open}
use Rattle.conn_script.proofs.WorkLemmas.{start_open_less}
use Rattle.conn_script.proofs.creating.start_told.Goals as goal

pub returns-else-is_over-clause-turns : goal.returns-else-is_over-clause-turns
returns-else-is_over-clause-turns c = told_open c.args.ticket c.args.carry c.feed.new.self c.args.answer c.feed.ensures c.if-is_over.ensures.over

pub returns-else-is_over-clause-less : goal.returns-else-is_over-clause-less
returns-else-is_over-clause-less c = start_open_less c.args.ticket c.args.carry c.feed.new.self c.feed.ensures.less

use Rattle.conn_script.proofs.UndoLemmas.{undo_else}
use Rattle.conn_script.proofs.undoing.undo_ended.Goals as goal

pub returns-in-End-clause-leads : goal.returns-in-End-clause-leads
returns-in-End-clause-leads c = rw c.in-End.is (c.undo_told.ensures.leads c.args.binding)

pub returns-in_default-clause-leads : goal.returns-in_default-clause-leads
returns-in_default-clause-leads c = undo_else c.args.session c.args.binding c.args.answer c.let_go.result c.requires c.in_default.not-End c.let_go.ensures

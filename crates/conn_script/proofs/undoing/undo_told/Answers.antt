use Rattle.conn_script.proofs.UndoLemmas.{undo_ended, undo_gone}
use Rattle.conn_script.proofs.undoing.undo_told.Goals as goal

pub returns-in-Ended-clause-leads : goal.returns-in-Ended-clause-leads
returns-in-Ended-clause-leads c = λ b. rw c.in-Ended.is (undo_ended c.args.session.now b c.in-Ended.closing c.of-path.result c.of-path.ensures)

pub returns-in-NoSession-clause-leads : goal.returns-in-NoSession-clause-leads
returns-in-NoSession-clause-leads c = λ b. rw c.in-NoSession.is (undo_gone c.args.session.now b)

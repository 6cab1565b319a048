use Rattle.std.proofs.Common.{sym, subst}
use Rattle.conn_script.specs.declared.undoing.Undoing.{Undoing}
use Rattle.conn_script.specs.declared.wants.Answer.TheVariants as told
use Rattle.conn_script.specs.Undo.{UndoMoves, undo_awaits}
use Rattle.conn_script.specs.Wanted.{IsAwaited}
use Rattle.conn_script.proofs.UndoLemmas.{withdraw_undoes, end_undoes, free_undoes}
use Rattle.conn_script.proofs.undoing.Undoing.answered.Goals as goal

pub returns-in-Withdrawing : goal.returns-in-Withdrawing
returns-in-Withdrawing c =
    subst (λ (u : Undoing). UndoMoves u (told.Hub c.args.answer) c.withdrawn.result) (sym c.in-Withdrawing.is)
    (withdraw_undoes c.args.answer c.withdrawn.result c.withdrawn.ensures.leads c.withdrawn.ensures.waits c.withdrawn.ensures.ready c.withdrawn.ensures.less)

pub returns-in-Ending : goal.returns-in-Ending
returns-in-Ending c =
    subst (λ (u : Undoing). UndoMoves u (told.Hub c.args.answer) c.undo_ended.result) (sym c.in-Ending.is)
    (end_undoes c.in-Ending.session c.in-Ending.binding c.args.answer c.undo_ended.result c.undo_ended.ensures.leads c.undo_ended.ensures.ready c.undo_ended.ensures.stays c.undo_ended.ensures.less)

pub returns-in-Freeing : goal.returns-in-Freeing
returns-in-Freeing c =
    subst (λ (u : Undoing). UndoMoves u (told.Hub c.args.answer) c.let_go.result) (sym c.in-Freeing.is)
    (free_undoes c.args.answer c.let_go.result
    (subst (λ (u : Undoing). IsAwaited (told.Hub c.args.answer) (undo_awaits u)) c.in-Freeing.is c.requires) c.let_go.ensures)

use Rattle.std.proofs.Common.{sym, subst}
use Rattle.conn_script.specs.declared.undoing.Undoing.{Undoing}
use Rattle.conn_script.specs.declared.undoing.Undoing.TheVariants as undo
use Rattle.conn_script.specs.declared.wants.Answer.TheVariants as told
use Rattle.conn_script.specs.Undo.{UndoMoves}
use Rattle.conn_script.proofs.UndoLemmas.{quit_undoes}
use Rattle.conn_script.proofs.undoing.Undoing.exchanged.Goals as goal

pub returns : goal.returns
returns c =
    subst (λ (u : Undoing). UndoMoves u (told.Node c.args.came.now) (undo.Free c.in-Quit.closing)) (sym c.in-Quit.is)
    (quit_undoes c.in-Quit.closing c.in-Quit.field-1 c.args.came.now)

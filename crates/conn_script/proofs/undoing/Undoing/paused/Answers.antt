use Rattle.std.proofs.Common.{sym, subst}
use Rattle.conn_script.specs.declared.undoing.Undoing.{Undoing}
use Rattle.conn_script.specs.declared.undoing.Undoing.TheVariants as undo
use Rattle.conn_script.specs.declared.wants.Answer.TheVariants as told
use Rattle.conn_script.specs.Undo.{UndoMoves}
use Rattle.conn_script.proofs.UndoLemmas.{wait_undoes}
use Rattle.conn_script.proofs.undoing.Undoing.paused.Goals as goal

pub returns : goal.returns
returns c =
    subst (λ (u : Undoing). UndoMoves u told.Paused (undo.Withdraw c.in-Waiting.ticket)) (sym c.in-Waiting.is)
    (wait_undoes c.in-Waiting.ticket)

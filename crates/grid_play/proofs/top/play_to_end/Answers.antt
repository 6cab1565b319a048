use Rattle.std.proofs.Common.{sym, ◌∙◌, inl, subst}
use Rattle.grid_play.proofs.RunLemmas.{IsStatus, is_status, read_told, write_told}
use Rattle.grid_play.proofs.top.play_to_end.Goals as goal

pub returns-in-Ok-clause-ran : goal.returns-in-Ok-clause-ran
returns-in-Ok-clause-ran g c = inl (record { ended = c.in-Ok.ended; served = c.in-Ok.ensures.served; status_is = c.status_of.ensures })

pub returns-in-Ok-clause-read : goal.returns-in-Ok-clause-read
returns-in-Ok-clause-read g c = λ e. read_told c.in-Ok.ended _ _ (sym c.status_of.ensures ∙ e) c.in-Ok.ensures.served.blames

pub returns-in-Ok-clause-write : goal.returns-in-Ok-clause-write
returns-in-Ok-clause-write g c = λ e. write_told c.in-Ok.ended _ _ (sym c.status_of.ensures ∙ e) c.in-Ok.ensures.served.blames

pub returns-in-Ok-clause-statuses : goal.returns-in-Ok-clause-statuses
returns-in-Ok-clause-statuses g c = subst IsStatus (sym c.status_of.ensures) (is_status c.in-Ok.ended)

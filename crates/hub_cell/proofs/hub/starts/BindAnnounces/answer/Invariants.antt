use Rattle.hub_cell.proofs.hub.starts.BindAnnounces.answer.Given as goal

abbrev pub ghosts-counted_bind : goal.ghosts-counted_bind
ghosts-counted_bind a = record { name = a.blank.name; parts = a.blank.parts }

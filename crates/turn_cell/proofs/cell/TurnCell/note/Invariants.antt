use Rattle.turn_cell.proofs.cell.TurnCell.note.Given as goal

-- the look that is noted
abbrev pub ghosts-remark : goal.ghosts-remark
ghosts-remark g a = record { look = record { session = a.session.now; found = a.found.now } }

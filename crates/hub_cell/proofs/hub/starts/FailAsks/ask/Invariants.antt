use Rattle.hub_cell.proofs.hub.starts.FailAsks.ask.Given as goal

abbrev pub ghosts-counted_fail : goal.ghosts-counted_fail
ghosts-counted_fail a = record { name = a.blank.name; parts = a.blank.parts }

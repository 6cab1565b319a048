use Rattle.std.proofs.Common.{[], ◌∷◌}
use Rattle.turn_cell.specs.Cells.{view_of}
use Rattle.trial_threads.specs.Counts.{next_of}
use Rattle.trial_threads.proofs.adding.add.Given as goal

abbrev pub ghosts-add_in : goal.ghosts-add_in
ghosts-add_in g a = record { entries = next_of (view_of a.pass.now) ∷ [] }

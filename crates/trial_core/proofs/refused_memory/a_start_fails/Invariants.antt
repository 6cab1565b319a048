use Rattle.trial_core.proofs.refused_memory.a_start_fails.Given as goal

abbrev pub ghosts-fails : goal.ghosts-fails
ghosts-fails g a = record { name = a.blank.name; parts = a.blank.parts }

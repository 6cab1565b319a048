use Rattle.trial_core.proofs.refused_memory.a_session_is_created.Given as goal

abbrev pub ghosts-creates : goal.ghosts-creates
ghosts-creates g a = record { name = a.blank.name; parts = a.blank.parts }

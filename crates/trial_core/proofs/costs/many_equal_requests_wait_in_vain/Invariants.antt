use Rattle.trial_core.proofs.costs.many_equal_requests_wait_in_vain.Given as goal

abbrev pub ghosts-plays : goal.ghosts-plays
ghosts-plays g a = record { name = a.blank.name; parts = a.blank.parts }

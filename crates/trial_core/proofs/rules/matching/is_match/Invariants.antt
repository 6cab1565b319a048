use Rattle.trial_core.proofs.rules.matching.is_match.Given as goal

abbrev pub ghosts-matched : goal.ghosts-matched
ghosts-matched a = record { name = a.blank.name; parts = a.blank.parts }

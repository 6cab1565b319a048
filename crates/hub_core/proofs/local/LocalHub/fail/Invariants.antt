use Rattle.hub_core.proofs.local.LocalHub.fail.Given as goal

abbrev pub ghosts-counted_fail : goal.ghosts-counted_fail
ghosts-counted_fail a = record { name = a.blank.name; parts = a.blank.parts }

use Rattle.hub_core.proofs.local.LocalHub.bind.Given as goal

abbrev pub ghosts-counted_bind : goal.ghosts-counted_bind
ghosts-counted_bind a = record { name = a.blank.name; parts = a.blank.parts }

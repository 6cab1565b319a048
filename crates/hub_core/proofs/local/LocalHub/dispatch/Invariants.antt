use Rattle.hub_core.proofs.local.LocalHub.dispatch.Given as goal

abbrev pub ghosts-counted_dispatch : goal.ghosts-counted_dispatch
ghosts-counted_dispatch a = record { name = a.blank.name; parts = a.blank.parts }

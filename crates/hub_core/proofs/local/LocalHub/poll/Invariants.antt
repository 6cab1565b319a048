use Rattle.hub_core.proofs.local.LocalHub.poll.Given as goal

abbrev pub ghosts-counted_poll : goal.ghosts-counted_poll
ghosts-counted_poll a = record { name = a.blank.name; parts = a.blank.parts }

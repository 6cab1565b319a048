use Rattle.hub_cell.proofs.hub.requests.EnqueueAsks.ask.Given as goal

abbrev pub ghosts-counted_enqueue : goal.ghosts-counted_enqueue
ghosts-counted_enqueue a = record { name = a.blank.name; parts = a.blank.parts }

use Rattle.hub_cell.proofs.hub.requests.DispatchAsks.ask.Given as goal

abbrev pub ghosts-counted_dispatch : goal.ghosts-counted_dispatch
ghosts-counted_dispatch a = record { name = a.blank.name; parts = a.blank.parts }

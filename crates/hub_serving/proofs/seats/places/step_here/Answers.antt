use Rattle.hub_workers.specs.SharedClock.{not_asked}
use Rattle.hub_serving.proofs.seats.places.step_here.Goals as goal

pub returns-in-None-clause-asked : goal.returns-in-None-clause-asked
returns-in-None-clause-asked g c = not_asked

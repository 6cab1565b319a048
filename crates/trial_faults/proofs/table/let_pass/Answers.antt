use Rattle.grid_outside.specs.Told.{to_wait}
use Rattle.hub_workers.specs.SharedClock.{asked_on, not_asked}
use Rattle.trial_faults.proofs.table.let_pass.Goals as goal

pub returns : goal.returns
returns g c = asked_on c.args.clock.now _ (to_wait c.args.ms) _ not_asked c.pause-now.ensures.gives c.pause-now.ensures.later

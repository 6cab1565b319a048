use Rattle.trial_faults.proofs.teams.started.Goals as goal

pub returns : goal.returns
returns g c = c.both.ensures

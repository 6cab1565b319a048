use Rattle.grid_types.specs.declared.entry.FailWhy.TheVariants as why
use Rattle.hub_core.specs.declared.answers.Ending.TheVariants as ending
use Rattle.grid_keeper.proofs.AlongLemmas.{along_same}
use Rattle.grid_keeper.proofs.settling.end_outcome.Goals as goal

pub returns-in_default-clause-went : goal.returns-in_default-clause-went
returns-in_default-clause-went g c = along_same g.K.Keeper.disk c.args.hub.now c.requires.open

pub returns-in_default-clause-stay : goal.returns-in_default-clause-stay
returns-in_default-clause-stay g c = λ left bare held. held

pub returns-in_default-clause-fewer : goal.returns-in_default-clause-fewer
returns-in_default-clause-fewer g c = λ r good. good

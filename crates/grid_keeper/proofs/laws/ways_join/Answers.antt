use Rattle.grid_keeper.proofs.AlongLemmas.{along_on}
use Rattle.grid_keeper.proofs.laws.ways_join.Goals as goal

pub returns : goal.returns
returns g c = along_on g.K.Keeper.disk

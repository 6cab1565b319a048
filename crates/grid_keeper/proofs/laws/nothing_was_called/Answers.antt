use Rattle.std.proofs.Common.{arith}
use Rattle.grid_keeper.specs.Runs.{no_call}
use Rattle.grid_keeper.proofs.AlongLemmas.{along_same}
use Rattle.grid_keeper.proofs.laws.nothing_was_called.Goals as goal

pub returns : goal.returns
returns g c = record { runs = no_call c.args.hub.now; went = along_same g.K.Keeper.disk c.args.hub.now c.requires; later = omega arith }

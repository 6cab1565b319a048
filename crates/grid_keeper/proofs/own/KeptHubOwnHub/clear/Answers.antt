use Rattle.grid_types.specs.Calls.{Call}
use Rattle.own_hub.specs.Own.{cleared_reply}
use Rattle.grid_keeper.proofs.OwnLemmas.{came}
use Rattle.grid_keeper.proofs.own.KeptHubOwnHub.clear.Goals as goal

pub returns : goal.returns
returns g c = came g.K.Keeper.disk g.K.Keeper.faults cleared_reply c.args.self.now c.clear.new.self Call.clear c.args.at.0 c.clear.result c.clear.ensures.kept c.clear.ensures.later c.clear.ensures.cause

use Rattle.grid_types.specs.Calls.{Call}
use Rattle.hub_core.specs.Replies.{swept_reply}
use Rattle.grid_keeper.proofs.OwnLemmas.{came}
use Rattle.grid_keeper.proofs.own.KeptHubOwnHub.sweep.Goals as goal

pub returns : goal.returns
returns g c = came g.K.Keeper.disk g.K.Keeper.faults swept_reply c.args.self.now c.sweep.new.self Call.sweep c.args.at.0 c.sweep.result c.sweep.ensures.kept c.sweep.ensures.later c.sweep.ensures.cause

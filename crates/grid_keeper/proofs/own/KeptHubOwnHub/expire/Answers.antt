use Rattle.grid_types.specs.Calls.{Call}
use Rattle.hub_core.specs.Replies.{expiring_reply}
use Rattle.grid_keeper.proofs.OwnLemmas.{came}
use Rattle.grid_keeper.proofs.own.KeptHubOwnHub.expire.Goals as goal

pub returns : goal.returns
returns g c = came g.K.Keeper.disk g.K.Keeper.faults expiring_reply c.args.self.now c.expire.new.self Call.expire c.args.at.0 c.expire.result c.expire.ensures.kept c.expire.ensures.later c.expire.ensures.cause

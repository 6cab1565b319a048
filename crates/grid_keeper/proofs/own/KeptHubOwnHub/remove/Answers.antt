use Rattle.grid_types.specs.Calls.{Call}
use Rattle.hub_core.specs.Replies.{removal_reply}
use Rattle.grid_keeper.proofs.OwnLemmas.{came}
use Rattle.grid_keeper.proofs.own.KeptHubOwnHub.remove.Goals as goal

pub returns : goal.returns
returns g c = came g.K.Keeper.disk g.K.Keeper.faults removal_reply c.args.self.now c.remove.new.self (Call.remove c.args.node) c.args.at.0 c.remove.result c.remove.ensures.kept c.remove.ensures.later c.remove.ensures.cause

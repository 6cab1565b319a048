use Rattle.grid_types.specs.Calls.{Call}
use Rattle.hub_core.specs.Replies.{draining_reply}
use Rattle.grid_keeper.proofs.OwnLemmas.{came}
use Rattle.grid_keeper.proofs.own.KeptHubOwnHub.drain.Goals as goal

pub returns : goal.returns
returns g c = came g.K.Keeper.disk g.K.Keeper.faults draining_reply c.args.self.now c.drain.new.self (Call.drain c.args.node) c.args.at.0 c.drain.result c.drain.ensures.kept c.drain.ensures.later c.drain.ensures.cause

use Rattle.grid_types.specs.Calls.{Call}
use Rattle.hub_core.specs.Replies.{ending_reply}
use Rattle.grid_keeper.proofs.OwnLemmas.{came}
use Rattle.grid_keeper.proofs.own.KeptHubOwnHub.end.Goals as goal

pub returns : goal.returns
returns g c = came g.K.Keeper.disk g.K.Keeper.faults ending_reply c.args.self.now c.end.new.self (Call.end c.args.session.now c.args.binding) c.args.at.0 c.end.result c.end.ensures.kept c.end.ensures.later c.end.ensures.cause

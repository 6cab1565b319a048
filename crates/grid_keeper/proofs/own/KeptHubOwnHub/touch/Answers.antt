use Rattle.grid_types.specs.Calls.{Call}
use Rattle.hub_core.specs.Replies.{touching_reply}
use Rattle.grid_keeper.proofs.OwnLemmas.{came}
use Rattle.grid_keeper.proofs.own.KeptHubOwnHub.touch.Goals as goal

pub returns : goal.returns
returns g c = came g.K.Keeper.disk g.K.Keeper.faults touching_reply c.args.self.now c.touch.new.self (Call.touch c.args.session.now c.args.binding) c.args.at.0 c.touch.result c.touch.ensures.kept c.touch.ensures.later c.touch.ensures.cause

use Rattle.grid_types.specs.Calls.{Call}
use Rattle.hub_core.specs.Replies.{failing_reply}
use Rattle.grid_keeper.proofs.OwnLemmas.{came}
use Rattle.grid_keeper.proofs.own.KeptHubOwnHub.fail.Goals as goal

pub returns : goal.returns
returns g c = came g.K.Keeper.disk g.K.Keeper.faults failing_reply c.args.self.now c.fail.new.self (Call.fail c.args.reservation c.args.why) c.args.at.0 c.fail.result c.fail.ensures.kept c.fail.ensures.later c.fail.ensures.cause

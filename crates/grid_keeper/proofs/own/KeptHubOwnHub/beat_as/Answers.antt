use Rattle.std.specs.Prelude.{Some}
use Rattle.grid_types.specs.Calls.{Call}
use Rattle.hub_core.specs.Replies.{beating_reply}
use Rattle.grid_keeper.proofs.OwnLemmas.{came}
use Rattle.grid_keeper.proofs.own.KeptHubOwnHub.beat_as.Goals as goal

pub returns : goal.returns
returns g c = came g.K.Keeper.disk g.K.Keeper.faults beating_reply c.args.self.now c.beat_as.new.self (Call.beat c.args.node (Some c.args.name.now)) c.args.at.0 c.beat_as.result c.beat_as.ensures.kept c.beat_as.ensures.later c.beat_as.ensures.cause

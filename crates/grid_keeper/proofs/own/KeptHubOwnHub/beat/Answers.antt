use Rattle.std.specs.Prelude.{None}
use Rattle.grid_types.specs.Calls.{Call}
use Rattle.hub_core.specs.Replies.{beating_reply}
use Rattle.grid_keeper.proofs.OwnLemmas.{came}
use Rattle.grid_keeper.proofs.own.KeptHubOwnHub.beat.Goals as goal

pub returns : goal.returns
returns g c = came g.K.Keeper.disk g.K.Keeper.faults beating_reply c.args.self.now c.beat.new.self (Call.beat c.args.node None) c.args.at.0 c.beat.result c.beat.ensures.kept c.beat.ensures.later c.beat.ensures.cause

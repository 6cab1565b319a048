use Rattle.grid_types.specs.Calls.{Call}
use Rattle.hub_core.specs.Replies.{enqueued_reply}
use Rattle.grid_keeper.proofs.OwnLemmas.{came}
use Rattle.grid_keeper.proofs.own.KeptHubOwnHub.enqueue.Goals as goal

pub returns : goal.returns
returns g c = came g.K.Keeper.disk g.K.Keeper.faults enqueued_reply c.args.self.now c.enqueue.new.self (Call.enqueue c.args.choices) c.args.at.0 c.enqueue.result c.enqueue.ensures.kept c.enqueue.ensures.later c.enqueue.ensures.cause

use Rattle.grid_types.specs.Calls.{Call}
use Rattle.hub_core.specs.Replies.{polled_reply}
use Rattle.grid_keeper.proofs.OwnLemmas.{came}
use Rattle.grid_keeper.proofs.own.KeptHubOwnHub.poll.Goals as goal

pub returns-clause-answers : goal.returns-clause-answers
returns-clause-answers g c = came g.K.Keeper.disk g.K.Keeper.faults polled_reply c.args.self.now c.poll.new.self (Call.poll c.args.ticket) c.args.at.0 c.poll.result c.poll.ensures.kept c.poll.ensures.later c.poll.ensures.cause

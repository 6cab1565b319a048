use Rattle.grid_types.specs.Calls.{Call}
use Rattle.hub_core.specs.Replies.{registering_reply}
use Rattle.grid_keeper.proofs.OwnLemmas.{came}
use Rattle.grid_keeper.proofs.own.KeptHubOwnHub.register.Goals as goal

pub returns-clause-answers : goal.returns-clause-answers
returns-clause-answers g c = came g.K.Keeper.disk g.K.Keeper.faults registering_reply c.args.self.now c.register.new.self (Call.register c.args.node) c.args.at.0 c.register.result c.register.ensures.kept c.register.ensures.later c.register.ensures.cause

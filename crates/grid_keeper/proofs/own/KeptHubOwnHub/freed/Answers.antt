use Rattle.grid_keeper.proofs.OwnLemmas.{freed_came}
use Rattle.grid_keeper.proofs.own.KeptHubOwnHub.freed.Goals as goal

pub returns : goal.returns
returns g c = λ at. freed_came g.K.Keeper.disk g.K.Keeper.faults c.args.self.now c.freed.new.self c.args.closing at c.freed.result c.freed.ensures.kept c.freed.ensures.later c.freed.ensures.cause

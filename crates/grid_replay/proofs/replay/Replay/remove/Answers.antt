use Rattle.grid_replay.proofs.ReplayLemmas.{on-ok, ends-there}
use Rattle.grid_replay.proofs.replay.Replay.remove.Goals as goal

pub returns-in-Some-clause-ends : goal.returns-in-Some-clause-ends
returns-in-Some-clause-ends c = on-ok c.put.result
    (λ added. ends-there c.args.self.now c.put.new.self c.args.ledger.now c.args.binding c.session_of.result c.in-Some.session c.session_of.ensures c.in-Some.is added) c.put.ensures.items

use Rattle.grid_replay.proofs.ReplayLemmas.{on-ok, puts-there}
use Rattle.grid_replay.proofs.replay.Replay.show.Goals as goal

pub returns-in-Some-clause-puts : goal.returns-in-Some-clause-puts
returns-in-Some-clause-puts c = on-ok c.put.result
    (λ added. puts-there c.args.self.now c.put.new.self c.args.ledger.now c.args.request c.args.slot c.args.session c.node_address.result c.in-Some.address c.node_address.ensures c.in-Some.is added) c.put.ensures.items

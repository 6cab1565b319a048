use Rattle.conn_script.proofs.RelayLemmas.{exchange_unreachable, exchange_lacks}
use Rattle.conn_script.proofs.relaying.not_exchanged.Goals as goal

pub returns-in-Unreachable-clause-turns : goal.returns-in-Unreachable-clause-turns
returns-in-Unreachable-clause-turns c = rw c.in-Unreachable.is (rw c.respond.ensures.turn (exchange_unreachable c.args.close c.node_unreachable.result c.node_unreachable.ensures))

pub returns-in-Memory-clause-turns : goal.returns-in-Memory-clause-turns
returns-in-Memory-clause-turns c = rw c.in-Memory.is (exchange_lacks c.args.close)

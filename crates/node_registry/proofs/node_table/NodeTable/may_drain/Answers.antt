use Rattle.node_registry.proofs.QuietLemmas.{none-drains}
use Rattle.node_registry.proofs.node_table.NodeTable.may_drain.Goals as goal

pub returns-clause-sure : goal.returns-clause-sure
returns-clause-sure c =
    let proved = c.history_laws.ensures in
    record { of = λ c' H s l unset. none-drains proved c' H c.args.self.now s l unset }

use Rattle.std.proofs.Common.{rules, tests}
use Rattle.node_registry.proofs.QuietLemmas.{none-silent}
use Rattle.node_registry.proofs.node_table.NodeTable.is_quiet.Goals as goal

pub returns-clause-sure : goal.returns-clause-sure
returns-clause-sure c =
    let proved = c.history_laws.ensures in
    record { of = λ c' H s l yes. none-silent proved c' H c.args.self.now c.args.at.0 c.args.silent_ms s l (search (rules, tests)) }

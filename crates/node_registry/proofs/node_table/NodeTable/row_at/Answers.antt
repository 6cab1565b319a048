use Rattle.std.proofs.Common.{sym}
use Rattle.node_registry.proofs.Queries.{row-tells}
use Rattle.node_registry.proofs.node_table.NodeTable.row_at.Goals as goal

pub returns-clause-row : goal.returns-clause-row
returns-clause-row c =
    let proved = c.history_laws.ensures in
    record { of = λ c' H s l. row-tells proved c' H c.args.self.now c.in_ok-node.node.now c.in_ok-node.row.now s l (sym c.in_ok-node.ensures.value) }

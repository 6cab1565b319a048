use Rattle.std.proofs.Common.{◌∙◌}
use Rattle.node_registry.proofs.Queries.{row-tells, row-registered, absent-fails}
use Rattle.node_registry.proofs.node_table.NodeTable.is_registered.Goals as goal

pub returns-in-Some : goal.returns-in-Some
returns-in-Some c =
    let proved = c.history_laws.ensures in
    record { of = λ c' H s l. c.is_registered.ensures ∙ row-registered H c.args.node c.in-Some.row.now (row-tells proved c' H c.args.self.now c.args.node c.in-Some.row.now s l c.in-Some.ensures.value) }

pub returns-in-None : goal.returns-in-None
returns-in-None c =
    let proved = c.history_laws.ensures in
    record { of = λ c' H s l. absent-fails proved c' H c.args.self.now c.args.node _ s l c.in-None.ensures.value (λ h. h) }

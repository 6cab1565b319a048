use Rattle.std.proofs.Common.{ap}
use Rattle.std.specs.Prelude.{Some}
use Rattle.node_registry.proofs.Queries.{row-tells, listed-there}
use Rattle.node_registry.proofs.node_table.NodeTable.beat.Goals as goal

pub returns-in_err-get-clause-listed : goal.returns-in_err-get-clause-listed
returns-in_err-get-clause-listed c =
    let proved = c.history_laws.ensures in
    record { of = λ c' H s l on. listed-there proved c' H c.args.self.now c.args.node s l c.in_err-get.ensures.value on }

pub returns-clause-listed : goal.returns-clause-listed
returns-clause-listed c =
    let proved = c.history_laws.ensures in
    record { of = λ c' H s l on. ap Some (row-tells proved c' H c.args.self.now c.args.node _ s l c.in_ok-get.ensures.value).beat }

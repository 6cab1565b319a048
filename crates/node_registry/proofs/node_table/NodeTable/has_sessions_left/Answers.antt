use Rattle.node_registry.proofs.Queries.{row-tells, listed-there}
use Rattle.node_registry.proofs.node_table.NodeTable.has_sessions_left.Goals as goal

pub returns-in-Some-clause-listed : goal.returns-in-Some-clause-listed
returns-in-Some-clause-listed c =
    let proved = c.history_laws.ensures in
    record {
      of = λ c' H s l on held.
          c.has_sessions_left.ensures.of H c.args.node (row-tells proved c' H c.args.self.now c.args.node c.in-Some.row.now s l c.in-Some.ensures.value) held;
    }

pub returns-in-None-clause-listed : goal.returns-in-None-clause-listed
returns-in-None-clause-listed c =
    let proved = c.history_laws.ensures in
    record { of = λ c' H s l on held. listed-there proved c' H c.args.self.now c.args.node s l c.in-None.ensures.value on }

use Rattle.std.proofs.Common.{◌∙◌}
use Rattle.grid_types.specs.Nodes.{bound_count}
use Rattle.node_registry.proofs.Queries.{row-tells, row-spent, listed-there}
use Rattle.node_registry.proofs.node_table.NodeTable.is_spent.Goals as goal

pub returns-in-Some-clause-listed : goal.returns-in-Some-clause-listed
returns-in-Some-clause-listed c =
    let proved = c.history_laws.ensures in
    record {
      of = λ c' H s l on.
          let tells = row-tells proved c' H c.args.self.now c.args.node c.in-Some.row.now s l c.in-Some.ensures.value in
          c.is_spent.ensures (bound_count H c.args.node) tells.bound ∙ row-spent H c.args.node c.in-Some.row.now tells;
    }

pub returns-in-None-clause-listed : goal.returns-in-None-clause-listed
returns-in-None-clause-listed c =
    let proved = c.history_laws.ensures in
    record { of = λ c' H s l on. listed-there proved c' H c.args.self.now c.args.node s l c.in-None.ensures.value on }

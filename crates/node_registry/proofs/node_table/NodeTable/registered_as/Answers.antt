use Rattle.std.proofs.Common.{◌∙◌}
use Rattle.node_registry.proofs.Queries.{named-node}
use Rattle.node_registry.proofs.node_table.NodeTable.registered_as.Goals as goal

pub returns : goal.returns
returns c = record { of = λ c' H s l. c.first_named.ensures ∙ named-node c.args.self.now H c.args.name.now s }

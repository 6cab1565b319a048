use Rattle.std.proofs.Common.{sym, slice_get, ◌∙◌}
use Rattle.grid_types.specs.Nodes.{is_registered}
use Rattle.node_registry.specs.Table.{known}
use Rattle.hub_walks.proofs.QuietLemmas.{aged-fails, aged-none, aged-passes}
use Rattle.hub_walks.proofs.sweeping.lapsed_at.Goals as goal

pub returns-in_err-node : goal.returns-in_err-node
returns-in_err-node c = record { of = λ d H s l. c.from_residual.ensures ∙ aged-none H (is_registered H) c.args.config.now.down_ms c.args.at.0 (slice_get (known c.args.nodes.now) c.args.index) (c.in_err-node.ensures.of d H s l) }

pub returns-then-lapsed : goal.returns-then-lapsed
returns-then-lapsed c = record { of = λ d H s l. aged-passes H (is_registered H) c.args.config.now.down_ms c.args.at.0 (slice_get (known c.args.nodes.now) c.args.index) c.in_ok-node.node c.in_ok-node.beat (c.in_ok-node.ensures.of d H s l) (sym c.lapsed.ensures ∙ c.if-lapsed.true) }

pub returns-else-lapsed : goal.returns-else-lapsed
returns-else-lapsed c = record { of = λ d H s l. aged-fails H (is_registered H) c.args.config.now.down_ms c.args.at.0 (slice_get (known c.args.nodes.now) c.args.index) c.in_ok-node.node c.in_ok-node.beat (c.in_ok-node.ensures.of d H s l) (sym c.lapsed.ensures ∙ c.if-lapsed.false) }

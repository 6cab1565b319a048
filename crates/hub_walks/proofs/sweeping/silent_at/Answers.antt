use Rattle.std.proofs.Common.{sym, slice_get, ◌∙◌}
use Rattle.node_registry.specs.Table.{is_trusted, known}
use Rattle.hub_walks.proofs.QuietLemmas.{aged-fails, aged-none, aged-passes}
use Rattle.hub_walks.proofs.sweeping.silent_at.Goals as goal

pub returns-in_err-node : goal.returns-in_err-node
returns-in_err-node c = record { of = λ d H s l. c.from_residual.ensures ∙ aged-none H (is_trusted H) c.args.config.now.lapse_ms c.args.at.0 (slice_get (known c.args.nodes.now) c.args.index) (c.in_err-node.ensures.of d H s l) }

pub returns-then-silent : goal.returns-then-silent
returns-then-silent c = record { of = λ d H s l. aged-passes H (is_trusted H) c.args.config.now.lapse_ms c.args.at.0 (slice_get (known c.args.nodes.now) c.args.index) c.in_ok-node.node c.in_ok-node.beat (c.in_ok-node.ensures.of d H s l) (sym c.silent.ensures ∙ c.if-silent.true) }

pub returns-else-silent : goal.returns-else-silent
returns-else-silent c = record { of = λ d H s l. aged-fails H (is_trusted H) c.args.config.now.lapse_ms c.args.at.0 (slice_get (known c.args.nodes.now) c.args.index) c.in_ok-node.node c.in_ok-node.beat (c.in_ok-node.ensures.of d H s l) (sym c.silent.ensures ∙ c.if-silent.false) }

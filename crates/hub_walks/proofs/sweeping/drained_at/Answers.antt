use Rattle.std.proofs.Common.{slice_get, ◌∙◌}
use Rattle.node_registry.specs.Table.{known}
use Rattle.hub_walks.proofs.QuietLemmas.{drained-fails, drained-none, drained-passes}
use Rattle.hub_walks.proofs.sweeping.drained_at.Goals as goal

pub returns-in_err-node : goal.returns-in_err-node
returns-in_err-node c = record { of = λ d H s l. c.from_residual.ensures ∙ drained-none H (slice_get (known c.args.nodes.now) c.args.index) (c.in_err-node.ensures.of d H s.nodes_stand l) }

pub returns-then-has_slot_in_use : goal.returns-then-has_slot_in_use
returns-then-has_slot_in_use c = record { of = λ d H s l. drained-fails H (slice_get (known c.args.nodes.now) c.args.index) c.in_ok-node.node _ (c.in_ok-node.ensures.of d H s.nodes_stand l) (c.has_slot_in_use.ensures.of d H s.slots_stand l) c.if-has_slot_in_use.true }

pub returns-else-has_slot_in_use : goal.returns-else-has_slot_in_use
returns-else-has_slot_in_use c = record { of = λ d H s l. drained-passes H (slice_get (known c.args.nodes.now) c.args.index) c.in_ok-node.node _ (c.in_ok-node.ensures.of d H s.nodes_stand l) (c.has_slot_in_use.ensures.of d H s.slots_stand l) c.if-has_slot_in_use.false }

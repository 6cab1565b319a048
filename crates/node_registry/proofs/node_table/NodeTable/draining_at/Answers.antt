use Rattle.std.proofs.Common.{rules, tests, slice_get, sym, ◌∙◌}
use Rattle.grid_types.specs.Nodes.{is_draining}
use Rattle.node_registry.specs.Table.{known}
use Rattle.node_registry.proofs.Queries.{row-draining}
use Rattle.node_registry.proofs.QuietLemmas.{kept-fails, kept-past, kept-there, known-past, known-there, place-tells}
use Rattle.node_registry.proofs.node_table.NodeTable.draining_at.Goals as goal

pub returns-in_err-node : goal.returns-in_err-node
returns-in_err-node c = record { of = λ d H s l. c.from_residual.ensures ∙ kept-past (is_draining H) (slice_get (known c.args.self.now) c.args.index) (known-past c.args.self.now c.args.index (search (rules, tests))) }

pub returns-then-is_draining : goal.returns-then-is_draining
returns-then-is_draining c =
    let proved = c.history_laws.ensures in
    record {
      of = λ d H s l.
          let tells = place-tells proved d H c.args.self.now c.args.index c.in_ok-node.node.now c.in_ok-node.row.now s l (search (rules, tests)) in
          kept-there (is_draining H) (slice_get (known c.args.self.now) c.args.index) c.in_ok-node.node.now
          (known-there c.args.self.now c.args.index c.in_ok-node.node.now c.in_ok-node.row.now (search (rules, tests)))
          (sym (row-draining H c.in_ok-node.node.now c.in_ok-node.row.now tells) ∙ sym c.is_draining.ensures ∙ c.if-is_draining.true);
    }

pub returns-else-is_draining : goal.returns-else-is_draining
returns-else-is_draining c =
    let proved = c.history_laws.ensures in
    record {
      of = λ d H s l.
          let tells = place-tells proved d H c.args.self.now c.args.index c.in_ok-node.node.now c.in_ok-node.row.now s l (search (rules, tests)) in
          kept-fails (is_draining H) (slice_get (known c.args.self.now) c.args.index) c.in_ok-node.node.now
          (known-there c.args.self.now c.args.index c.in_ok-node.node.now c.in_ok-node.row.now (search (rules, tests)))
          (sym (row-draining H c.in_ok-node.node.now c.in_ok-node.row.now tells) ∙ sym c.is_draining.ensures ∙ c.if-is_draining.false);
    }

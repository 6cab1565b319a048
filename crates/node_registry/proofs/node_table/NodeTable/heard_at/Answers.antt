use Rattle.std.proofs.Common.{rules, tests, slice_get, sym, ◌∙◌}
use Rattle.node_registry.specs.Table.{is_trusted}
use Rattle.node_registry.specs.Table.{known}
use Rattle.node_registry.proofs.QuietLemmas.{known-past, known-there, place-tells, row-trusted, sign-past, sign-told, sign-untold}
use Rattle.node_registry.proofs.node_table.NodeTable.heard_at.Goals as goal

pub returns-in_err-node : goal.returns-in_err-node
returns-in_err-node c = record { of = λ d H s l. c.from_residual.ensures ∙ sign-past H (is_trusted H) (slice_get (known c.args.self.now) c.args.index) (known-past c.args.self.now c.args.index (search (rules, tests))) }

pub returns-then-is_heard : goal.returns-then-is_heard
returns-then-is_heard c =
    let proved = c.history_laws.ensures in
    record {
      of = λ d H s l.
          let tells = place-tells proved d H c.args.self.now c.args.index c.in_ok-node.node.now c.in_ok-node.row.now s l (search (rules, tests)) in
          sign-told H (is_trusted H) (slice_get (known c.args.self.now) c.args.index) c.in_ok-node.node.now c.in_ok-node.row.now
          (known-there c.args.self.now c.args.index c.in_ok-node.node.now c.in_ok-node.row.now (search (rules, tests)))
          (sym (row-trusted H c.in_ok-node.node.now c.in_ok-node.row.now tells) ∙ sym c.is_heard.ensures ∙ c.if-is_heard.true) tells;
    }

pub returns-else-is_heard : goal.returns-else-is_heard
returns-else-is_heard c =
    let proved = c.history_laws.ensures in
    record {
      of = λ d H s l.
          let tells = place-tells proved d H c.args.self.now c.args.index c.in_ok-node.node.now c.in_ok-node.row.now s l (search (rules, tests)) in
          sign-untold H (is_trusted H) (slice_get (known c.args.self.now) c.args.index) c.in_ok-node.node.now
          (known-there c.args.self.now c.args.index c.in_ok-node.node.now c.in_ok-node.row.now (search (rules, tests)))
          (sym (row-trusted H c.in_ok-node.node.now c.in_ok-node.row.now tells) ∙ sym c.is_heard.ensures ∙ c.if-is_heard.false);
    }

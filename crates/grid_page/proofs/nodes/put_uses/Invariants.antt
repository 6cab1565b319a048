use Rattle.std.proofs.Common.{◌≡◌, drop}
use Rattle.grid_page.specs.Nodes.{with_uses}
use Rattle.grid_page.proofs.nodes.put_uses.Given as goal

abbrev pub invariant-loop-row : goal.invariant-loop-row
invariant-loop-row l = with_uses l.sheet.bytes.items l.node (drop l.row-index l.rows) ≡ with_uses l.fn.sheet.bytes.items l.node l.rows

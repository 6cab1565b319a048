use Rattle.std.proofs.Common.{◌≡◌, drop}
use Rattle.grid_farm.specs.Known.{known}
use Rattle.grid_page.specs.Nodes.{with_nodes}
use Rattle.grid_page.proofs.nodes.put_nodes.Given as goal

abbrev pub invariant-loop-row : goal.invariant-loop-row
invariant-loop-row l = with_nodes l.sheet.bytes.items (known l.farm) (drop l.row-index l.rows) ≡ with_nodes l.fn.sheet.bytes.items (known l.farm) l.rows

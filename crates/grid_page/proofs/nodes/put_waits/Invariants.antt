use Rattle.std.proofs.Common.{◌≡◌, drop}
use Rattle.grid_farm.specs.Known.{known}
use Rattle.grid_page.specs.Nodes.{with_waits}
use Rattle.grid_page.proofs.nodes.put_waits.Given as goal

abbrev pub invariant-loop-row : goal.invariant-loop-row
invariant-loop-row l = with_waits l.sheet.bytes.items (known l.farm) (drop l.row-index l.rows) ≡ with_waits l.fn.sheet.bytes.items (known l.farm) l.rows

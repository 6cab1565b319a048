use Rattle.std.proofs.Common.{◌≡◌, drop}
use Rattle.grid_page.specs.Hour.{with_bars}
use Rattle.grid_page.proofs.picture.put_bars.Given as goal

abbrev pub invariant-loop-row : goal.invariant-loop-row
invariant-loop-row l = with_bars l.sheet.bytes.items l.frame (drop l.row-index l.rows) ≡ with_bars l.fn.sheet.bytes.items l.frame l.rows

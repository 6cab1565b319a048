use Rattle.std.proofs.Common.{◌≡◌, drop}
use Rattle.grid_page.specs.Hour.{with_steps}
use Rattle.grid_page.proofs.picture.put_steps.Given as goal

abbrev pub invariant-loop-row : goal.invariant-loop-row
invariant-loop-row l = with_steps l.sheet.bytes.items l.frame (drop l.row-index l.rows) ≡ with_steps l.fn.sheet.bytes.items l.frame l.rows

use Rattle.std.proofs.Common.{◌≡◌, drop}
use Rattle.grid_page.specs.Hour.{most_created}
use Rattle.grid_page.proofs.hour.most_created.Given as goal

abbrev pub invariant-loop-row : goal.invariant-loop-row
invariant-loop-row l = most_created l.most (drop l.row-index l.rows) ≡ most_created l.fn.least l.rows

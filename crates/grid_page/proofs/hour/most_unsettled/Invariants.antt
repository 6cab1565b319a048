use Rattle.std.proofs.Common.{◌≡◌, drop}
use Rattle.grid_page.specs.Hour.{most_unsettled}
use Rattle.grid_page.proofs.hour.most_unsettled.Given as goal

abbrev pub invariant-loop-row : goal.invariant-loop-row
invariant-loop-row l = most_unsettled l.most (drop l.row-index l.rows) ≡ most_unsettled l.fn.least l.rows

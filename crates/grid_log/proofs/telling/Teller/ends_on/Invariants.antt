use Rattle.std.proofs.Common.{◌≡◌, drop}
use Rattle.grid_log.specs.Facts.{with_lines}
use Rattle.grid_log.specs.Events.{ends_on}
use Rattle.grid_log.proofs.telling.Teller.ends_on.Given as goal

-- the lines so far with those of the rest behind them are all
abbrev pub invariant-loop-row : goal.invariant-loop-row
invariant-loop-row l =
    with_lines l.self.form l.lines.items (ends_on l.node l.at.0 (drop l.row-index l.rows)) ≡ with_lines l.self.form l.fn.lines.items (ends_on l.node l.at.0 l.rows)

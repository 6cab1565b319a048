use Rattle.std.proofs.Common.{◌≡◌, [], length}
use Rattle.turn_cell.specs.Cells.{view_of, IsOf, IsFree}
use Rattle.trial_threads.specs.Crew.{EachHas}
use Rattle.trial_threads.proofs.crew.rejoin_all.Given as goal

abbrev pub invariant-loop-other : goal.invariant-loop-other
invariant-loop-other l = IsOf l.cell l.pass × IsFree l.pass × EachHas l.times (view_of l.pass).ended × ((view_of l.pass).mine ≡ []) × (length (view_of l.pass).ended ≡ length l.yielded)

use Rattle.std.proofs.Common.{◌≡◌, ◌+◌, length}
use Rattle.turn_cell.specs.Cells.{view_of, IsOf, IsFree}
use Rattle.trial_threads.proofs.adding.adds.Given as goal

abbrev pub invariant-loop : goal.invariant-loop
invariant-loop g l = IsOf l.cell l.pass × IsFree l.pass × (length (view_of l.pass).mine ≡ length (view_of l.initial.pass).mine + l.counter) × ((view_of l.pass).ended ≡ (view_of l.initial.pass).ended)

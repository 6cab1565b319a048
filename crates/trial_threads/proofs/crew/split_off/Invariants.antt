use Rattle.std.proofs.Common.{◌≡◌, [], All, vec_len}
use Rattle.turn_cell.specs.Cells.{view_of, IsOf, IsFree}
use Rattle.trial_threads.specs.Crew.{IsNew}
use Rattle.trial_threads.proofs.crew.split_off.Given as goal

abbrev pub invariant-loop : goal.invariant-loop
invariant-loop g l =
    IsOf l.cell l.pass × IsFree l.pass × ((view_of l.pass).ended ≡ []) × ((view_of l.pass).mine ≡ []) × (vec_len l.passes ≡ l.counter) × All (IsNew l.cell) l.passes.items

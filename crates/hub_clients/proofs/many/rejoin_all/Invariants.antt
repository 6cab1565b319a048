use Rattle.std.proofs.Common.{◌≡◌, length}
use Rattle.hub_cell.specs.Passes.{knows, IsOf}
use Rattle.hub_clients.specs.Beats.{EachHas}
use Rattle.hub_clients.proofs.many.rejoin_all.Given as goal

abbrev pub invariant-loop-other : goal.invariant-loop-other
invariant-loop-other l = IsOf l.hub l.pass × EachHas l.times (knows l.pass).ended × ((knows l.pass).mine ≡ (knows l.initial.pass).mine) × (length (knows l.pass).ended ≡ length l.yielded)

use Rattle.std.proofs.Common.{◌≡◌, drop}
use Rattle.grid_farm.specs.Gauges.{with_free}
use Rattle.grid_farm.proofs.gauges.free_in.Given as goal

abbrev pub invariant-loop-row : goal.invariant-loop-row
invariant-loop-row l = with_free l.uses l.count (drop l.row-index l.nodes) ≡ with_free l.uses 0 l.nodes

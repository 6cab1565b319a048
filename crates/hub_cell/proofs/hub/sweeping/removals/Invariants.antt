use Rattle.std.proofs.Common.{◌≡◌, ◌++◌, drop}
use Rattle.hub_core.specs.Ahead.{removals_of}
use Rattle.map_view.specs.Lists.{listed}
use Rattle.hub_cell.proofs.hub.sweeping.removals.Given as goal

abbrev pub invariant-loop-session : goal.invariant-loop-session
invariant-loop-session l = listed l.items ++ removals_of (drop l.session-index l.session-items) ≡ removals_of l.session-items

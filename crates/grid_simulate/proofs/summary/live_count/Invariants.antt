use Rattle.std.proofs.Common.{◌≡◌, ◌≤◌, take, length}
use Rattle.std.specs.Prelude.{filter}
use Rattle.grid_types.specs.History.{history_of}
use Rattle.grid_types.specs.Bindings.{bindings}
use Rattle.grid_types.specs.Sessions.{is_live}
use Rattle.grid_simulate.proofs.summary.live_count.Given as goal

abbrev pub invariant-loop-entry : goal.invariant-loop-entry
invariant-loop-entry l = record {
  counted : l.count ≡ length (filter (is_live (history_of l.journal)) (bindings (history_of (take l.entry-index l.journal))));
  few : l.count ≤ l.entry-index;
}

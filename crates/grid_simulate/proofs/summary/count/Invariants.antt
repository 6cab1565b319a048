use Rattle.std.proofs.Common.{◌≡◌, ◌≤◌, take}
use Rattle.grid_types.specs.History.{history_of}
use Rattle.grid_simulate.specs.Counts.{count}
use Rattle.grid_simulate.specs.Kinds.{is_of}
use Rattle.grid_simulate.proofs.summary.count.Given as goal

-- the entries so far are counted
abbrev pub invariant-loop-entry : goal.invariant-loop-entry
invariant-loop-entry l = record {
  counted : l.count ≡ count (is_of l.kind) (history_of (take l.entry-index l.journal));
  few : l.count ≤ l.entry-index;
}

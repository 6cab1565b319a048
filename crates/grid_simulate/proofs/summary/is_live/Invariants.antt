use Rattle.std.proofs.Common.{◌≡◌, take}
use Rattle.grid_types.specs.History.{history_of}
use Rattle.grid_types.specs.Bindings.{bound_slot}
use Rattle.grid_types.specs.Sessions.{is_live}
use Rattle.grid_simulate.proofs.summary.is_live.Given as goal

abbrev pub invariant-loop-entry : goal.invariant-loop-entry
invariant-loop-entry l = record {
  live : l.live ≡ is_live (history_of (take l.entry-index l.journal)) l.binding;
  slot : l.slot ≡ bound_slot (history_of (take l.entry-index l.journal)) l.binding;
}

use Rattle.std.proofs.Common.{◌-◌, ◌≤◌, length, take}
use Rattle.grid_outside.specs.Told.{Gains}
use Rattle.grid_outside.proofs.writing.write_all.Given as goal

-- what was written
abbrev pub invariant-pieces : goal.invariant-pieces
invariant-pieces g l = record {
  taken : Gains (g.K.Sink.view l.fn.output).taken (g.K.Sink.view l.output).taken (take l.done l.bytes);
  within : l.done ≤ length l.bytes;
  faults : (g.K.Sink.view l.fn.output).faults ≤ (g.K.Sink.view l.output).faults;
}

abbrev pub decreases-pieces : goal.decreases-pieces
decreases-pieces g l = length l.bytes - l.done

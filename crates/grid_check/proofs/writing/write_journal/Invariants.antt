use Rattle.std.proofs.Common.{take}
use Rattle.grid_types.specs.History.{history_of}
use Rattle.grid_check.proofs.WriteLemmas.{HasWritten}
use Rattle.grid_check.proofs.writing.write_journal.Given as goal

-- the journal of the entries so far was written
abbrev pub invariant-loop-entry : goal.invariant-loop-entry
invariant-loop-entry g l = record {
  so_far : HasWritten l.config (history_of (take l.entry-index l.entries)) (g.K.Sink.view l.fn.output)
      (g.K.Sink.view l.output);
}

use Rattle.std.proofs.Common.{◌≡◌, length, drop}
use Rattle.json_spans.specs.Machine.{run, stack_of, value_at}
use Rattle.json_spans.proofs.machine.value_end.Given as goal

abbrev pub invariant-loop-i : goal.invariant-loop-i
invariant-loop-i l =
    run 127 (length l.text) l.reader.mode l.reader.naming (stack_of l.reader.brackets l.reader.depth) (drop l.i l.text) ≡ value_at l.at (drop l.at l.text)

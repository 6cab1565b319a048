use Rattle.std.proofs.Common.{◌≡◌, drop}
use Rattle.http_frames.specs.Calm.{last_line, last_line_from}
use Rattle.http_frames.proofs.calm.last_line.Given as goal

abbrev pub invariant-loop-i : goal.invariant-loop-i
invariant-loop-i l = last_line_from l.line (drop l.i l.text) ≡ last_line l.text

use Rattle.std.proofs.Common.{◌≡◌, drop}
use Rattle.http_frames.specs.Calm.{calm_behind}
use Rattle.http_frames.proofs.calm.calm_behind.Given as goal

abbrev pub invariant-loop-b : goal.invariant-loop-b
invariant-loop-b l = calm_behind l.calm (drop l.b-index l.part) ≡ calm_behind l.fn.calm l.part

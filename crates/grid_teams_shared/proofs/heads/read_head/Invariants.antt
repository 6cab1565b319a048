use Rattle.std.proofs.Common.{◌<◌, ◌≤◌, length}
use Rattle.grid_outside.specs.declared.source.TheConstants.{PIECE_BYTES}
use Rattle.grid_outside.specs.Told.{LinkView}
use Rattle.grid_teams_shared.specs.Heads.{Reading}
use Rattle.grid_teams_shared.proofs.heads.read_head.Given as goal

-- it was read on from where it stood
abbrev pub invariant-loop : goal.invariant-loop
invariant-loop g l = record {
  reading : (old : LinkView) → Reading old l.fn.ahead (g.L.Link.view l.fn.link) → Reading old l.ahead (g.L.Link.view l.link);
  room : 0 < length l.buffer;
  few : length l.buffer ≤ PIECE_BYTES;
  same : g.L.Link.Same l.fn.link l.link;
}

use Rattle.std.proofs.Common.{◌-◌, ◌≤◌, length, take}
use Rattle.grid_teams_shared.specs.Links.{Took}
use Rattle.grid_teams_shared.proofs.writing.write_all.Given as goal

-- so many bytes were taken
abbrev pub invariant-pieces : goal.invariant-pieces
invariant-pieces g l = record {
  took : Took (g.L.Link.view l.fn.link) (take l.done l.bytes) (g.L.Link.view l.link);
  within : l.done ≤ length l.bytes;
  same : g.L.Link.Same l.fn.link l.link;
}

abbrev pub decreases-pieces : goal.decreases-pieces
decreases-pieces g l = length l.bytes - l.done

use Rattle.std.proofs.Common.{All}
use Rattle.hub_cell.specs.Passes.{IsOf}
use Rattle.hub_server.proofs.passes.bare_passes.Given as goal

abbrev pub invariant-loop : goal.invariant-loop
invariant-loop g l = record {
  own : IsOf l.hub l.first;
  each : All (IsOf l.hub) l.passes.items;
}

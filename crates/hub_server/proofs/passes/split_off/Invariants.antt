use Rattle.std.proofs.Common.{◌≡◌, ◌+◌, ◌≤◌, All, vec_len, vec_capacity}
use Rattle.hub_cell.specs.Passes.{IsOf, spares_of}
use Rattle.hub_server.proofs.passes.split_off.Given as goal

-- so many passes were split off
abbrev pub invariant-loop : goal.invariant-loop
invariant-loop g l = record {
  own : IsOf l.hub l.first;
  each : All (IsOf l.hub) l.passes.items;
  count : vec_len l.passes ≡ l.counter;
  room : vec_capacity l.passes ≡ vec_capacity l.fn.passes;
  spares : spares_of l.fn.first ≤ spares_of l.first + l.counter;
}

use Rattle.std.proofs.Common.{◌≡◌, ◌≤◌, vec_len, vec_capacity}
use Rattle.grid_outside.specs.Told.{NoneFell}
use Rattle.hub_server.proofs.top.clocks_of.Given as goal

-- so many clocks were taken, no count fell, and the door is set and bound where it was
abbrev pub invariant-loop : goal.invariant-loop
invariant-loop g l = record {
  taken : vec_len l.clocks ≡ l.counter;
  room : l.count ≤ vec_capacity l.clocks;
  later : NoneFell (g.D.Door.view l.fn.door) (g.D.Door.view l.door);
}

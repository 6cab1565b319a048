use Rattle.std.proofs.Common.{◌≡◌, ◌≤◌, vec_len, vec_capacity}
use Rattle.grid_outside.specs.Told.{NoneFell}
use Rattle.hub_server.proofs.top.posts_of.Given as goal

-- so many posts were made, no count fell, and the door is bound where it was
abbrev pub invariant-loop-index : goal.invariant-loop-index
invariant-loop-index g l = record {
  taken : vec_len l.posts ≡ l.index;
  room : l.loops ≤ vec_capacity l.posts;
  later : NoneFell (g.D.Door.view l.fn.door) (g.D.Door.view l.door);
}

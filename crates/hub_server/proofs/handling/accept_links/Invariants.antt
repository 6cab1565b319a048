use Rattle.grid_outside.specs.Told.{NoneFell}
use Rattle.hub_server.proofs.handling.accept_links.Given as goal

-- no count fell, and the door is set and bound where it was
abbrev pub invariant-loop : goal.invariant-loop
invariant-loop g l = record {
  later : NoneFell (g.A.Accepts.view l.fn.door) (g.A.Accepts.view l.door);
}

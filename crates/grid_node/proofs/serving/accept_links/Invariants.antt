use Rattle.grid_outside.specs.Told.{NoneFell}
use Rattle.grid_node.proofs.serving.accept_links.Given as goal

-- no count fell, and the door is bound where it was
abbrev pub invariant-loop : goal.invariant-loop
invariant-loop g l = record {
  later : NoneFell (g.D.Door.view l.fn.door) (g.D.Door.view l.door);
}

use Rattle.std.proofs.Common.{◌-◌, ◌≤◌, [], length, take}
use Rattle.loop_node.specs.Connections.{Moved}
use Rattle.loop_node.proofs.writing.write_all.Given as goal

abbrev pub invariant-pieces : goal.invariant-pieces
invariant-pieces g l = record {
  moved : Moved
      (g.L.Link.view l.fn.link)
      (g.L.Link.view l.link)
      [] (take l.done l.bytes);
  within : l.done ≤ length l.bytes;
}

abbrev pub decreases-pieces : goal.decreases-pieces
decreases-pieces g l = length l.bytes - l.done

use Rattle.std.proofs.Common.{◌≡◌, ◌++◌, ◌==◌, length, map, take, string_bytes}
use Rattle.std.specs.List.{join_with_byte}
use Rattle.grid_types.specs.Capabilities.{written_member}
use Rattle.wd_bodies.specs.Bodies.{for_nodes}
use Rattle.wd_bodies.proofs.capabilities.push_for_nodes.Given as goal

-- those for nodes among the members so far are written
abbrev pub invariant-loop-member : goal.invariant-loop-member
invariant-loop-member l = record {
  written : string_bytes l.text ≡ string_bytes l.fn.text ++ join_with_byte 44 (map written_member (for_nodes (take l.member-index l.members)));
  first : l.is_first ≡ (length (for_nodes (take l.member-index l.members)) == 0);
}

use Rattle.std.proofs.Common.{◌≡◌, ◌++◌, map, take, string_bytes}
use Rattle.std.specs.List.{join_with_byte}
use Rattle.hub_status.specs.Status.{written_node}
use Rattle.hub_status.proofs.nodes.push_nodes.Given as goal

abbrev pub invariant-loop-index : goal.invariant-loop-index
invariant-loop-index l = string_bytes l.text ≡ string_bytes l.fn.text ++ join_with_byte 44 (map written_node (take l.index l.nodes))

use Rattle.std.proofs.Common.{◌≡◌, false, take}
use Rattle.std.specs.List.{list_any}
use Rattle.loop_node.specs.Links.{is_at}
use Rattle.loop_node.proofs.links.place_of.Given as goal

-- no node so far has the address
abbrev pub invariant-loop-index : goal.invariant-loop-index
invariant-loop-index l = list_any (is_at l.address) (take l.index l.nodes) ≡ false

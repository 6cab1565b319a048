use Rattle.std.proofs.Common.{◌≡◌, false, take}
use Rattle.std.specs.List.{list_any}
use Rattle.loop_node.specs.Sessions.{has_id}
use Rattle.loop_node.proofs.node.place_of.Given as goal

-- no session so far has the id
abbrev pub invariant-loop-index : goal.invariant-loop-index
invariant-loop-index l = list_any (has_id l.id) (take l.index l.sessions) ≡ false

use Rattle.std.proofs.Common.{◌≡◌, ◌-◌, ◌^◌, length, take, min}
use Rattle.grid_types.specs.Nodes.{stereotypes}
use Rattle.grid_ledger.proofs.ledger.nodes.slot_count.Given as goal

abbrev pub invariant-loop-group : goal.invariant-loop-group
invariant-loop-group l = l.count ≡ min (length (stereotypes (take l.group-index l.groups))) (2 ^ 64 - 1)

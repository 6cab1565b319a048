use Rattle.std.proofs.Common.{◌≡◌, ◌-◌, ◌^◌, take, min}
use Rattle.grid_types.specs.declared.capabilities.SlotGroup.{SlotGroup}
use Rattle.grid_types.specs.Lists.{total}
use Rattle.grid_log.proofs.facts.slots_in.Given as goal

-- those of the groups so far
abbrev pub invariant-loop-group : goal.invariant-loop-group
invariant-loop-group l = l.count ≡ min (total (λ (group : SlotGroup). group.count) (take l.group-index l.groups)) (2 ^ 64 - 1)

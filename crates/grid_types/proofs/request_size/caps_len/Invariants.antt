use Rattle.std.proofs.Common.{◌≡◌, ◌+◌, ◌-◌, ◌^◌, length, take, min}
use Rattle.grid_types.specs.Lists.{total}
use Rattle.grid_types.specs.Capabilities.{written_member}
use Rattle.grid_types.proofs.request_size.caps_len.Given as goal

abbrev pub invariant-loop-member : goal.invariant-loop-member
invariant-loop-member l = l.len ≡ min (1 + total (λ m. length (written_member m) + 1) (take l.member-index l.members)) (2 ^ 64 - 1)

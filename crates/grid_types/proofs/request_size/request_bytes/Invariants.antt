use Rattle.std.proofs.Common.{◌≡◌, ◌-◌, ◌^◌, length, take, min}
use Rattle.grid_types.specs.Lists.{total}
use Rattle.grid_types.specs.Capabilities.{written_caps}
use Rattle.grid_types.proofs.request_size.request_bytes.Given as goal

abbrev pub invariant-loop-caps : goal.invariant-loop-caps
invariant-loop-caps l = l.bytes ≡ min (total (λ caps. length (written_caps caps)) (take l.caps-index l.choices)) (2 ^ 64 - 1)

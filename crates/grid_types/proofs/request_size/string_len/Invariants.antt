use Rattle.std.proofs.Common.{◌≡◌, ◌+◌, ◌-◌, ◌^◌, length, take, min}
use Rattle.std.specs.Prelude.{flat_map}
use Rattle.grid_types.specs.Capabilities.{escaped}
use Rattle.grid_types.proofs.request_size.string_len.Given as goal

abbrev pub invariant-loop-b : goal.invariant-loop-b
invariant-loop-b l = l.len ≡ min (2 + length (flat_map escaped (take l.b-index l.text))) (2 ^ 64 - 1)

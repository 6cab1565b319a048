use Rattle.std.proofs.Common.{◌≡◌, ◌++◌, take, string_bytes}
use Rattle.std.specs.List.{join_with_byte}
use Rattle.hub_status.specs.Status.{written_states}
use Rattle.hub_status.proofs.slots.push_states.Given as goal

abbrev pub invariant-loop-index : goal.invariant-loop-index
invariant-loop-index l = string_bytes l.text ≡ string_bytes l.fn.text ++ join_with_byte 44 (written_states l.first (take l.index l.states))

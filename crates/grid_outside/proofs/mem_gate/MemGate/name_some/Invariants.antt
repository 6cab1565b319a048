use Rattle.std.proofs.Common.{◌≡◌, ◌+◌, ◌++◌, vec_len, vec_capacity}
use Rattle.grid_outside.specs.MemGates.{in_turn, place_after}
use Rattle.grid_outside.proofs.mem_gate.MemGate.name_some.Given as goal

-- so many places were named
abbrev pub invariant-loop : goal.invariant-loop
invariant-loop l =
    (l.ready.items ≡ l.fn.ready.items ++ in_turn l.fn.self.places l.fn.self.next l.counter)
    × (l.self ≡ record l.fn.self { next = place_after l.fn.self.places l.fn.self.next l.counter })
    × (vec_capacity l.ready ≡ vec_capacity l.fn.ready)
    × (vec_len l.ready ≡ vec_len l.fn.ready + l.counter)

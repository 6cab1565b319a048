use Rattle.std.proofs.Common.{◌≡◌, ℕ, List, ◌++◌, vec_capacity}
use Rattle.grid_sockets.proofs.gate.hand_over.Given as goal

-- some places were handed over
abbrev pub invariant-loop : goal.invariant-loop
invariant-loop l =
    ((places : List ℕ) × (l.ready.items ≡ l.fn.ready.items ++ places))
    × (vec_capacity l.ready ≡ vec_capacity l.fn.ready)

use Rattle.std.proofs.Common.{◌≡◌, ℕ, List, ◌++◌, vec_capacity}
use Rattle.trial_server.proofs.gates.name_places.Given as goal

-- some places were named
abbrev pub invariant-loop-place : goal.invariant-loop-place
invariant-loop-place l =
    ((named : List ℕ) × (l.ready.items ≡ l.fn.ready.items ++ named))
    × (vec_capacity l.ready ≡ vec_capacity l.fn.ready)

-- Which places a gate in memory names.
use Rattle.std.specs.Prelude.{◌≡◌, ℕ, ◌+◌, ◌-◌, ◌^◌, zero, suc, max, min, nat_lt, List, [], ◌∷◌, ◌++◌, if◌then◌else◌}
use Rattle.grid_outside.specs.Planned.{Begins}
use Rattle.grid_outside.specs.declared.mem_gate.MemGate.{MemGate}

-- the place behind this one, of so many
abbrev pub place_behind : (places place : ℕ) → ℕ
place_behind places place = if nat_lt (place + 1) places then place + 1 else 0

-- the place so many behind
abbrev pub place_after : (places place count : ℕ) → ℕ
place_after places place zero = place
place_after places place (suc count) = place_behind places (place_after places place count)

-- so many places in turn, of so many, from this one on
abbrev pub in_turn : (places place count : ℕ) → List ℕ
in_turn places place zero = []
in_turn places place (suc count) =
    in_turn places place count ++ place_after places place count ∷ []

-- how many places there are once this one was asked for; a number stays at its greatest
abbrev pub with_place : (places place : ℕ) → ℕ
with_place places place = max places (min (2 ^ 64 - 1) (place + 1))

-- no place was asked for yet, and these links, by their numbers, find no room
pub record IsFresh (fails : List ℕ) (g : MemGate) : Type 0 where
  pub places : g.places ≡ 0
  pub next : g.next ≡ 0
  pub plan : Begins fails g.failing

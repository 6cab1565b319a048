-- The generator of a simulation: a linear congruential one modulo 2^64, of which the upper 31 bits are used.
use Rattle.std.specs.Prelude.{ℕ, ◌+◌, ◌*◌, ◌^◌, ◌/◌, ◌%◌}

-- its next number
abbrev pub next_number : ℕ → ℕ
next_number x = (x * 6_364_136_223_846_793_005 + 1_442_695_040_888_963_407) % 2 ^ 64

-- what is drawn from 0 to below n by the number x
abbrev pub drawn_by : ℕ → ℕ → ℕ
drawn_by x n = x / 2 ^ 33 % n

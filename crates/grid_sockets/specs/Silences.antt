-- Since when nothing has gone over a connection.
use Rattle.std.specs.Prelude.{ℕ, Option, None, Some}

-- it begins now where it has not begun
abbrev pub begun : Option ℕ → ℕ → ℕ
begun None now = now
begun (Some since) now = since

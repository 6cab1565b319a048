-- Blocks of bytes one behind the other, each behind its length.
use Rattle.std.specs.Prelude.{ℕ, List, [], ◌∷◌, ◌++◌, length}
use Rattle.std.specs.Int.{to_be_bytes, w32}

-- a length, greatest byte first
abbrev pub length_bytes : ℕ → List ℕ
length_bytes size = to_be_bytes w32 size

-- a block behind its length
abbrev pub frame : List ℕ → List ℕ
frame bytes = length_bytes (length bytes) ++ bytes

-- all of them
abbrev pub framed : List (List ℕ) → List ℕ
framed [] = []
framed (bytes ∷ blocks) = frame bytes ++ framed blocks

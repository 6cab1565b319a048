-- Text in HTML.
use Rattle.std.specs.Prelude.{ℕ, nat_eq, List, [], ◌∷◌, ◌++◌, codes, if◌then◌else◌}

-- a byte of a text: the signs of markup are written as references to them
abbrev pub escaped : ℕ → List ℕ
escaped byte =
    if nat_eq byte 38
    then codes "&amp;"
    else if nat_eq byte 60
    then codes "&lt;"
    else if nat_eq byte 62
    then codes "&gt;"
    else if nat_eq byte 34 then codes "&quot;" else byte ∷ []

-- the bytes with a text behind them
abbrev pub with_escaped : List ℕ → List ℕ → List ℕ
with_escaped bytes [] = bytes
with_escaped bytes (first ∷ rest) = with_escaped (bytes ++ escaped first) rest

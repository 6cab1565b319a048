-- The lines of the text format of Prometheus, version 0.0.4.
use Rattle.std.specs.Prelude.{ℕ, List, [], ◌∷◌, ◌++◌, codes, decimal}
use Rattle.text_sheet.specs.Numbers.{seconds}

-- what a family of series is called, what kind of values it has, and what they are; a series with its value; a series with a
-- time in milliseconds; a family that is a single series
pub data Row : Type 0 where
  family : (kind name help : List ℕ) → Row
  series : (name : List ℕ) → (n : ℕ) → Row
  time : (name : List ℕ) → (ms : ℕ) → Row
  single : (kind name help : List ℕ) → (n : ℕ) → Row

unfoldable pub with_family : List ℕ → (kind name help : List ℕ) → List ℕ
with_family bytes kind name help =
    bytes ++ codes "# HELP " ++ name ++ codes " " ++ help ++ codes "\n# TYPE " ++ name
    ++ codes " " ++ kind ++ codes "\n"

unfoldable pub with_series : List ℕ → (name : List ℕ) → ℕ → List ℕ
with_series bytes name n = bytes ++ name ++ codes " " ++ decimal n ++ codes "\n"

unfoldable pub with_time : List ℕ → (name : List ℕ) → ℕ → List ℕ
with_time bytes name ms = bytes ++ name ++ codes " " ++ seconds ms ++ codes "\n"

-- the bytes with a row behind them
unfoldable pub with_row : List ℕ → Row → List ℕ
with_row bytes (family kind name help) = with_family bytes kind name help
with_row bytes (series name n) = with_series bytes name n
with_row bytes (time name ms) = with_time bytes name ms
with_row bytes (single kind name help n) = with_series (with_family bytes kind name help) name n

-- the bytes with these rows behind them, in order
abbrev pub with_rows : List ℕ → List Row → List ℕ
with_rows bytes [] = bytes
with_rows bytes (row ∷ rows) = with_rows (with_row bytes row) rows

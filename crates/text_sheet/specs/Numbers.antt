-- How numbers are spelled.
use Rattle.std.specs.Prelude.{ℕ, ◌/◌, ◌%◌, List, ◌++◌, codes, decimal}

-- milliseconds as seconds, with three digits behind the point
unfoldable pub seconds : ℕ → List ℕ
seconds ms =
    decimal (ms / 1000) ++ codes "." ++ decimal (ms / 100 % 10) ++ decimal (ms / 10 % 10)
    ++ decimal (ms % 10)

-- Texts in a row, with commas between.
use Rattle.std.specs.Prelude.{ℕ, zero, suc, List, [], ◌∷◌}

-- a comma, where something stands before
abbrev pub comma : ℕ → List ℕ
comma zero = []
comma (suc n) = 44 ∷ []

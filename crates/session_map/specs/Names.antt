-- Session ids in the order of their bytes.
use Rattle.std.specs.Prelude.{ℕ, Bool, List}
use Rattle.std.specs.declared.cmp.Ordering.{Ordering}
use Rattle.std.specs.Ordering.{is_eq, nat_cmp}
use Rattle.std.specs.Cmp.Lexicographic.{slice_cmp}

abbrev pub session_cmp : List ℕ → List ℕ → Ordering
session_cmp = slice_cmp nat_cmp

-- two session ids are one
abbrev pub session_eq : List ℕ → List ℕ → Bool
session_eq x y = is_eq (session_cmp x y)

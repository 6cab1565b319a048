-- The order of session ids tells two ids apart by their bytes.
use Rattle.std.proofs.Common.{◌≡◌, ℕ, List, sym}
use Rattle.std.specs.Prelude.{bytes_eq}
use Rattle.std.specs.Cmp.{IsEquivalence, eq_by_cmp_equiv}
use Rattle.std.specs.Cmp.Lexicographic.{nat_list_cmp_total, texts_ties}
use Rattle.session_map.specs.Names.{session_eq}

pub session_eq-is : (x y : List ℕ) → session_eq x y ≡ bytes_eq x y
session_eq-is x y = sym (texts_ties x y)

pub session_eq-equivalence : IsEquivalence session_eq
session_eq-equivalence = eq_by_cmp_equiv nat_list_cmp_total

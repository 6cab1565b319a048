-- What a text names around its first `=`.
use Rattle.std.proofs.Common.{◌≡◌, ◌∙◌, ◌<◌, ℕ, List, [], ◌∷◌, Bool, true, false, length, refl, sym, ap, arith}
use Rattle.std.specs.Prelude.{None, is_some, nat_lt, if◌then◌else◌}
use Rattle.std.specs.List.{after_first, before_first, position_or_len}
use Rattle.server_words.specs.OwnCapabilities.{has_equals, is_equals, named_cap, own_cap}

less : (m n : ℕ) → m < n → nat_lt m n ≡ true
less m n h = grind arith

not_less : (m n : ℕ) → m ≡ n → nat_lt m n ≡ false
not_less m n e = grind arith

-- the parts that `split_once` gives are those of the definition
pub at_equals : (text name rest : List ℕ) → (position_or_len is_equals text < length text) × (name ≡ before_first is_equals text) × (rest ≡ after_first is_equals text)
    → own_cap text ≡ named_cap name rest
at_equals text name rest h =
    let has : has_equals text ≡ true = less (position_or_len is_equals text) (length text) h.0 in
    ap (λ (b : Bool). if b then named_cap (before_first is_equals text) (after_first is_equals text) else None) has
    ∙ (λ k. named_cap (sym h.1 k) (sym h.2 k))

pub nowhere : (text : List ℕ) → position_or_len is_equals text ≡ length text → own_cap text ≡ None
nowhere text e =
    ap (λ (b : Bool). if b then named_cap (before_first is_equals text) (after_first is_equals text) else None)
    (not_less (position_or_len is_equals text) (length text) e)

-- whether there is one
pub named : (name rest : List ℕ) → 0 < length name → is_some (named_cap name rest) ≡ true
named [] rest h = absurd (omega arith)
named (b ∷ name) rest h = refl

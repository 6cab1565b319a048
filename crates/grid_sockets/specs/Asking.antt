-- Which exchange a line to the nodes has under way.
use Rattle.std.specs.Prelude.{ℕ, List, Option, None, Some}
use Rattle.grid_outside.specs.declared.exchange.Ask.{Ask}

-- one is under way exactly where something of it is kept, and it may be any
abbrev pub Asks : {A : Type 0} → Option A → Option (List ℕ × Ask) → Type 0
Asks None None = Unit
Asks None (Some asked) = ⊥
Asks (Some kept) None = ⊥
Asks (Some kept) (Some asked) = Unit

pub one_at_most : {A : Type 0} (kept : Option A) (address : List ℕ) (ask : Ask) →
    Asks kept (Some (address, ask)) → Asks kept None → ⊥
one_at_most None address ask some none = some
one_at_most (Some kept) address ask some none = none

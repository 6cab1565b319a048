-- After how many links a door closes.
use Rattle.std.specs.Prelude.{◌≡◌, ◌≢◌, ℕ, ◌-◌, Option, None, Some}

-- one link less, where they are counted
abbrev pub one_less : Option ℕ → Option ℕ
one_less None = None
one_less (Some links) = Some (links - 1)

-- None is answered exactly where no link is left; a link is one of those left
abbrev pub IsCounted : {A : Type 0} → Option ℕ → Option ℕ → Option A → Type 0
IsCounted old new None = old ≡ Some 0
IsCounted old new (Some link) = (old ≢ Some 0) × (new ≡ one_less old)

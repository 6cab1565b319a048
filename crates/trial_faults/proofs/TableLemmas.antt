-- What holds of both is true of the one that is chosen.
use Rattle.std.specs.Prelude.{Bool, true, false, if◌then◌else◌}

pub holds_of_either : {X : Type 0} (Q : X → Type 0) (b : Bool) (x y : X) → Q x → Q y → Q (if b then x else y)
holds_of_either Q true x y p q = p
holds_of_either Q false x y p q = q

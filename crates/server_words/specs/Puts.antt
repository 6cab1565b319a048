-- What is put behind capabilities.
use Rattle.std.specs.Prelude.{◌≡◌, Bool, true, false, List, ◌++◌, Option, None, Some}
use Rattle.grid_types.specs.declared.capabilities.Cap.{Cap}

-- all of them behind the others, or there are none that could be
abbrev pub Puts : Bool → Option (List Cap) → List Cap → List Cap → Type 0
Puts true named old new = (caps : List Cap) × (named ≡ Some caps) × (new ≡ old ++ caps)
Puts false named old new = named ≡ None

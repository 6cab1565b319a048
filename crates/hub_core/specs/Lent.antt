-- What is lent of a request.
use Rattle.std.specs.Prelude.{List, Option, None, Some}
use Rattle.grid_types.specs.declared.capabilities.Cap.{Cap}
use Rattle.grid_types.specs.declared.entry.Outcome.{Outcome}
use Rattle.grid_types.specs.declared.entry.Outcome.TheVariants as outcome
use Rattle.grid_types.specs.Requests.{Place, settled}

-- the capabilities of the session that was created, where that is the outcome
abbrev pub caps_of : Outcome → Option (List Cap)
caps_of (outcome.Created session capabilities slot address binding) = Some capabilities
caps_of other = None

-- the same by where the request stands
abbrev pub created_caps : Place → Option (List Cap)
created_caps (settled result) = caps_of result
created_caps other = None

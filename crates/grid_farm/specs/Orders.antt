-- That the slots in use stand in order.
use Rattle.std.specs.Prelude.{◌≡◌, true, List, [], ◌∷◌, Option, None, Some}
use Rattle.grid_types.specs.declared.names.SlotId.{SlotId}
use Rattle.grid_farm.specs.declared.rows.UseRow.{UseRow}
use Rattle.grid_farm.specs.Uses.{comes_before}

-- the slot comes behind the other, where there is one
abbrev pub IsBehind : Option SlotId → SlotId → Type 0
IsBehind None slot = Unit {0}
IsBehind (Some other) slot = comes_before other slot ≡ true

-- each slot comes behind the one before it, and the first behind this one
abbrev pub AscendsFrom : Option SlotId → List UseRow → Type 0
AscendsFrom other [] = Unit {0}
AscendsFrom other (row ∷ rows) = IsBehind other row.slot × AscendsFrom (Some row.slot) rows

-- the slots stand by the numbers of their nodes and by their own, and none stands twice
abbrev pub Ascends : List UseRow → Type 0
Ascends rows = AscendsFrom None rows

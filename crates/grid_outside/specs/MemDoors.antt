-- What a door in memory tells.
use Rattle.std.specs.Prelude.{◌≡◌, List, [], ◌∷◌, Option, None, Some}
use Rattle.grid_outside.specs.Told.{DoorView}
use Rattle.grid_outside.specs.declared.mem_line.MemLine.{MemLine}
use Rattle.grid_outside.specs.declared.mem_door.MemDoor.{MemDoor}

-- all that it tells
abbrev pub door_view : MemDoor → DoorView
door_view d = record { faults = d.failing.faults; ends = d.ends; host = d.host; bound = d.bound }

-- the links that it has yet to hand out, in order
abbrev pub to_hand_out : MemDoor → List MemLine
to_hand_out d = d.links.items

-- the first of the links is handed out; None is answered where there is none
abbrev pub HandsOut : List MemLine → List MemLine → Option MemLine → Type 0
HandsOut old new None = (old ≡ []) × (new ≡ [])
HandsOut old new (Some link) = old ≡ link ∷ new

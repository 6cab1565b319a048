-- The statuses of the node's program.
use Rattle.std.specs.Prelude.{◌≡◌, ℕ, ◌≤◌, ◌⊎◌, Some}
use Rattle.grid_outside.specs.Counts.{Rose}
use Rattle.grid_outside.specs.Told.{DoorView, NoneFell}
use Rattle.grid_node.specs.declared.node_end.NodeEnd.{NodeEnd}
use Rattle.grid_node.specs.declared.node_end.NodeEnd.TheVariants as ends

-- the status that tells each end
abbrev pub code : NodeEnd → ℕ
code ends.Closed = 0
code ends.Refused = 2
code ends.DoorFailed = 3
code ends.NoMemory = 5

-- the links ended behind a door that is bound: it was found closed, or it failed
pub record HasServed (old new : DoorView) (status : ℕ) : Type 0 where
  pub closed : status ≡ 0 → Rose old.ends new.ends
  pub failed : status ≡ 3 → Rose old.faults new.faults
  pub later : NoneFell old new
  pub statuses : (status ≡ 0) ⊎ (status ≡ 3)

-- the same from before the door was bound at this port; or it could not be bound, or there was no memory
pub record HasRun (port : ℕ) (old new : DoorView) (status : ℕ) : Type 0 where
  pub closed : status ≡ 0 → Rose old.ends new.ends × (new.bound ≡ Some port)
  pub failed : status ≡ 3 → Rose old.faults new.faults
  pub ends_later : old.ends ≤ new.ends
  pub faults_later : old.faults ≤ new.faults
  pub bound : (new.bound ≡ old.bound) ⊎ (new.bound ≡ Some port)
  pub statuses : (status ≡ 0) ⊎ ((status ≡ 3) ⊎ (status ≡ 5))

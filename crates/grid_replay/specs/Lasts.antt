-- Which session was at a slot last.
use Rattle.std.specs.Prelude.{◌≡◌, ℕ, if◌then◌else◌, List, [], ◌∷◌, Option, None, Some}
use Rattle.grid_types.specs.declared.entry.Entry.{Entry}
use Rattle.grid_types.specs.declared.entry.Change.{Change}
use Rattle.grid_types.specs.declared.entry.Change.TheVariants as change
use Rattle.grid_types.specs.declared.names.SlotId.{SlotId}
use Rattle.grid_types.specs.History.{last_told}
use Rattle.grid_types.specs.Lists.{when}
use Rattle.grid_types.specs.Slots.{slot_eq}
use Rattle.grid_replay.specs.declared.replay.Stay.{Stay}

-- the session that a change puts into the slot, or leaves over there
abbrev pub left_by : SlotId → Change → Option (List ℕ)
left_by slot (change.Bound request named session capabilities at) = when (slot_eq named slot) session
left_by slot (change.Failed request named reason orphan last at) =
    if slot_eq named slot then orphan else None
left_by slot other = None

-- The session that was at the slot last: the last one that was bound to it, or that a start which failed left over there. Where the
-- slot is closing it is the one that is to end.
abbrev pub last_at : List Entry → SlotId → Option (List ℕ)
last_at history slot = last_told (λ before entry. left_by slot entry.change) history

-- the session of the last stay at the slot, or this one where there is none
abbrev pub last_from : Option (List ℕ) → SlotId → List Stay → Option (List ℕ)
last_from found slot [] = found
last_from found slot (stay ∷ stays) =
    last_from (if slot_eq stay.slot slot then Some stay.session else found) slot stays

abbrev pub last_in : SlotId → List Stay → Option (List ℕ)
last_in slot stays = last_from None slot stays

-- the session is at the slot last, and all others are where they were
abbrev pub Leaves : List Stay → List Stay → SlotId → List ℕ → Type 0
Leaves old new named session = (slot : SlotId) →
    last_in slot new ≡ (if slot_eq named slot then Some session else last_in slot old)

-- the same where there is a session, else each is where it was
abbrev pub LeavesOver : List Stay → List Stay → SlotId → Option (List ℕ) → Type 0
LeavesOver old new named None = new ≡ old
LeavesOver old new named (Some session) = Leaves old new named session

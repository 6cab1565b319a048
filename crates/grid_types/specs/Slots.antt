-- What a history says of a slot: who holds it.
use Rattle.std.specs.Prelude.{ℕ, Bool, true, false, if◌then◌else◌, not, ◌&&◌, ◌||◌, nat_eq, List, [], ◌∷◌, map, length, Option, None, Some, unwrap_or, is_some, filter}
use Rattle.std.specs.List.{list_any}
use Rattle.grid_types.specs.declared.entry.Entry.{Entry}
use Rattle.grid_types.specs.declared.entry.Change.{Change}
use Rattle.grid_types.specs.declared.entry.Change.TheVariants as change
use Rattle.grid_types.specs.declared.names.SlotId.{SlotId}
use Rattle.grid_types.specs.Lists.{when, how_many, numbers_from}
use Rattle.grid_types.specs.History.{last_told, nodes}
use Rattle.grid_types.specs.Nodes.{stereotypes_of, is_registered}
use Rattle.grid_types.specs.Bindings.{bound_slot}

-- what a slot is given to
pub data Holder : Type 0 where
  free : Holder
  held : (request : ℕ) → Holder
  busy : (session : List ℕ) → Holder
  closing : Holder

-- two slots are one
abbrev pub slot_eq : SlotId → SlotId → Bool
slot_eq first second = nat_eq first.node second.node && nat_eq first.index second.index

-- it is given to nothing
abbrev pub is_free : Holder → Bool
is_free free = true
is_free other = false

-- it runs a session
abbrev pub is_busy : Holder → Bool
is_busy (busy session) = true
is_busy other = false

-- its session has ended or was not kept, and it is not free yet
abbrev pub is_closing : Holder → Bool
is_closing closing = true
is_closing other = false

-- it is held for a request
abbrev pub is_held_slot : Holder → Bool
is_held_slot (held request) = true
is_held_slot other = false

-- it is held for this request
abbrev pub is_held_by : ℕ → Holder → Bool
is_held_by request (held named) = nat_eq named request
is_held_by request other = false

-- there is a slot named, and it is this one
abbrev pub names_slot : SlotId → Option SlotId → Bool
names_slot slot None = false
names_slot slot (Some named) = slot_eq named slot

-- the holder that a change leaves, where it concerns the slot; the history and the holder `before`
-- are those before it
abbrev pub holder_told : List Entry → SlotId → Holder → Change → Option Holder
holder_told history slot before (change.Reserved request named choice at) =
    when (slot_eq named slot) (held request)
holder_told history slot before (change.Bound request named session capabilities at) =
    when (slot_eq named slot) (busy session)
holder_told history slot before (change.Failed request named reason orphan last at) =
    when (slot_eq named slot) (if is_some orphan then closing else free)
holder_told history slot before (change.Freed named) = when (slot_eq named slot) free
holder_told history slot before (change.Ended binding ending at) =
    when (names_slot slot (bound_slot history binding)) closing
holder_told history slot before (change.Lapsed node at) =
    when (nat_eq node slot.node && is_busy before) free
holder_told history slot before other = None

-- the holder after a change: what it leaves, or the holder before
abbrev pub holder_after : List Entry → SlotId → Holder → Change → Holder
holder_after history slot before new = unwrap_or (holder_told history slot before new) before

-- a slot's holder, by the last entry that concerns it; free where there is none
abbrev pub holder : List Entry → SlotId → Holder
holder [] slot = free
holder (entry ∷ history) slot = holder_after history slot (holder history slot) entry.change

-- the caller of the last entry that concerns the slot
abbrev pub owner : List Entry → SlotId → Option ℕ
owner history slot =
    last_told
    (λ before entry.
    when (is_some (holder_told before slot (holder before slot) entry.change)) entry.caller)
    history

-- the node's slot of this number
abbrev pub slot_at : ℕ → ℕ → SlotId
slot_at node index = record { node = node; index = index }

-- a node's slots, by number
abbrev pub slots_of : List Entry → ℕ → List SlotId
slots_of history node = map (slot_at node) (numbers_from 0 (length (stereotypes_of history node)))

-- how many slots of a node are not free
abbrev pub load : List Entry → ℕ → ℕ
load history node = how_many (λ slot. not (is_free (holder history slot))) (slots_of history node)

-- how many slots of a node are held
abbrev pub held_count : List Entry → ℕ → ℕ
held_count history node =
    how_many (λ slot. is_held_slot (holder history slot)) (slots_of history node)

-- some slot of the node is not free
abbrev pub has_slot_in_use : List Entry → ℕ → Bool
has_slot_in_use history node =
    list_any (λ slot. not (is_free (holder history slot))) (slots_of history node)

-- a node is registered, or has a slot that is not free
abbrev pub is_listed : List Entry → ℕ → Bool
is_listed history node = is_registered history node || has_slot_in_use history node

-- the nodes that are listed, by number
abbrev pub listed : List Entry → List ℕ
listed history = filter (is_listed history) (nodes history)

-- What is open in a history.
use Rattle.std.specs.Prelude.{◌≡◌, ℕ, ◌<◌, Bool, true, false, ◌||◌, List}
use Rattle.grid_types.specs.declared.entry.Entry.{Entry}
use Rattle.grid_types.specs.declared.names.SlotId.{SlotId}
use Rattle.grid_types.specs.Slots.{Holder, holder, is_closing, is_held_slot}
use Rattle.grid_types.specs.Requests.{place}
use Rattle.session_queue.specs.Table.{is_gone}

-- the slot is held for a request, or closing
abbrev pub is_open : Holder → Bool
is_open given = is_held_slot given || is_closing given

-- none of the node's slots below the number is open
abbrev pub IsCloseOn : List Entry → ℕ → ℕ → Type 0
IsCloseOn history node count = (slot : SlotId) → slot.node ≡ node → slot.index < count →
    is_open (holder history slot) ≡ false

-- no slot is open
abbrev pub NoSlot : List Entry → Type 0
NoSlot history = (slot : SlotId) → is_open (holder history slot) ≡ false

-- each request that was queued is taken
abbrev pub NoRequest : List Entry → Type 0
NoRequest history = (request : ℕ) → is_gone (place history request) ≡ true

-- some slot is open
abbrev pub SomeSlot : List Entry → Type 0
SomeSlot history = (slot : SlotId) × (is_open (holder history slot) ≡ true)

-- some request that was queued is not taken
abbrev pub SomeRequest : List Entry → Type 0
SomeRequest history = (request : ℕ) × (is_gone (place history request) ≡ false)

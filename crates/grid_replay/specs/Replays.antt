-- What a replay has of a history: the items that its entries publish, which session was at each slot last, and the greatest
-- number of a caller.
use Rattle.std.specs.Prelude.{◌≡◌, ℕ, max, true, List, [], ◌∷◌, ◌++◌, map, filter_map, Option, None, Some}
use Rattle.grid_types.specs.declared.entry.Entry.{Entry}
use Rattle.grid_types.specs.declared.names.SlotId.{SlotId}
use Rattle.grid_types.specs.Bindings.{bound_of}
use Rattle.grid_types.specs.LookupMap.{Item, changes, published, put, removal, removal_of, session_in}
use Rattle.grid_types.specs.Nodes.{address_of, is_registered}
use Rattle.grid_types.specs.Sessions.{is_live}
use Rattle.map_view.specs.Lists.{listed}
use Rattle.map_view.specs.declared.items.Item as map_item
use Rattle.map_view.specs.declared.items.Item.TheVariants.{Removal}
use Rattle.reservation.specs.declared.slot_use.SlotUse.{SlotUse}
use Rattle.reservation.specs.declared.slot_use.SlotUse.TheVariants.{Busy}
use Rattle.reservation.specs.Table.{holder_of}
use Rattle.grid_ledger.specs.declared.ledger.GridLedger.{GridLedger}
use Rattle.grid_ledger.specs.LedgerStands.{LedgerTells}
use Rattle.grid_replay.specs.declared.replay.Replay.{Replay}
use Rattle.grid_replay.specs.Lasts.{last_at, last_in}

-- its items, the oldest first, are those that the history published, and it knows the session that was at a slot last
pub record Follows (replay : Replay) (history : List Entry) : Type 0 where
  pub items : published [] (listed replay.items) ≡ changes history
  pub lasts : (slot : SlotId) → last_in slot replay.stays.items ≡ last_at history slot

-- the greatest number of a caller, or 0
abbrev pub most_caller : List Entry → ℕ
most_caller [] = 0
most_caller (entry ∷ history) = max entry.caller (most_caller history)

-- and it knows the greatest number of a caller
pub record Shows (replay : Replay) (history : List Entry) : Type 0 where
  pub items : published [] (listed replay.items) ≡ changes history
  pub lasts : (slot : SlotId) → last_in slot replay.stays.items ≡ last_at history slot
  pub most : replay.most_caller ≡ most_caller history

-- these items stand behind those of before
abbrev pub Adds : Replay → Replay → List Item → Type 0
Adds old new more = listed new.items ≡ listed old.items ++ more

-- the put of a session in a slot of a registered node
abbrev pub Puts : Replay → Replay → GridLedger → ℕ → SlotId → List ℕ → Type 0
Puts old new ledger request slot session = LedgerTells ledger (λ history. is_registered history slot.node ≡ true →
    Adds old new (put (record { session = session; slot = slot; address = address_of history slot.node; binding = request }) ∷ []))

-- the removal of the session of a live binding
abbrev pub Ends : Replay → Replay → GridLedger → ℕ → Type 0
Ends old new ledger binding = LedgerTells ledger (λ history. is_live history binding ≡ true → Adds old new (removal_of (bound_of history binding)))

-- the removal of a session that runs in a slot
abbrev pub taken_off : SlotUse → Option map_item.Item
taken_off (Busy session binding owner) = Some (Removal session)
taken_off given = None

-- those of all slots, as items
abbrev pub all_off : List SlotUse → List map_item.Item
all_off uses = filter_map taken_off uses

-- the removals of the sessions that run in slots
abbrev pub removals_in : List SlotUse → List Item
removals_in uses = map (λ session. removal session) (filter_map (λ given. session_in (holder_of given)) uses)

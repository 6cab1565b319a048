-- What it is for the tables of a hub to stand for a history, and what their calls promise.
use Rattle.std.specs.Prelude.{◌≡◌, ℕ, true, false, List, ◌∷◌, None}
use Rattle.grid_types.specs.declared.config.HubConfig.{HubConfig}
use Rattle.grid_types.specs.declared.entry.Entry.{Entry}
use Rattle.grid_types.specs.declared.entry.Change.{Change}
use Rattle.grid_types.specs.History.{clock, next_node, next_request}
use Rattle.grid_types.specs.Legal.{legal}
use Rattle.grid_types.specs.Slots.{is_listed}
use Rattle.grid_types.specs.Tables.{entry}
use Rattle.request_laws.specs.Memory.{NothingFits, nobody}
use Rattle.node_registry.specs.Table as of_node
use Rattle.reservation.specs.Table as of_slot
use Rattle.session_queue.specs.Table as of_request
use Rattle.session_map.specs.Table as of_session
use Rattle.node_registry.specs.declared.node_table.NodeTable.{NodeTable}
use Rattle.reservation.specs.declared.slot_table.SlotTable.{SlotTable}
use Rattle.session_queue.specs.declared.request_table.RequestTable.{RequestTable}
use Rattle.session_map.specs.declared.live_map.LiveMap.{LiveMap}
use Rattle.hub_tables.specs.declared.tables.HubTables.{HubTables}

-- The tables stand for a history of a hub of this configuration, and so do the next numbers, the clock and what is
-- remembered of a search.
pub record Stands (c : HubConfig) (tables : HubTables) (H : List Entry) : Type 0 where
  pub nodes_stand : of_node.Stands tables.nodes H
  pub slots_stand : of_slot.Stands tables.slots H
  pub requests_stand : of_request.Stands tables.requests H
  pub sessions_stand : of_session.Stands tables.sessions H
  pub counts_nodes : tables.next_node ≡ next_node c H
  pub counts_requests : tables.next_request ≡ next_request c H
  pub tells_clock : tables.clock.0 ≡ clock H
  pub searched : NothingFits H tables.searched_below tables.searched_from.0 nobody

-- each table by itself stands for the history
abbrev pub EachStands : List Entry → NodeTable → SlotTable → RequestTable → LiveMap → Type 0
EachStands H nodes slots requests sessions =
    of_node.Stands nodes H × of_slot.Stands slots H × of_request.Stands requests H × of_session.Stands sessions H

-- these are the history's next numbers and its clock
abbrev pub IsNext : HubConfig → List Entry → ℕ → ℕ → ℕ → Type 0
IsNext c H node request at = (node ≡ next_node c H) × (request ≡ next_request c H) × (at ≡ clock H)

-- the numbers of the next node and of the next request
abbrev pub node_number : HubTables → ℕ
node_number tables = tables.next_node

abbrev pub request_number : HubTables → ℕ
request_number tables = tables.next_request

-- there is room to bind the session
abbrev pub HasRoomFor : HubTables → List ℕ → Type 0
HasRoomFor tables session = of_session.HasRoomFor tables.sessions session

-- the fact holds of each legal history that the tables stand for
pub record Tells (tables : HubTables) (fact : List Entry → Type 0) : Type 0 where
  pub of : (c : HubConfig) (H : List Entry) → Stands c tables H → legal c H ≡ true → fact H

-- the same of a fact that depends on the configuration
pub record TellsOf (tables : HubTables) (fact : HubConfig → List Entry → Type 0) : Type 0 where
  pub of : (c : HubConfig) (H : List Entry) → Stands c tables H → legal c H ≡ true → fact c H

-- for whatever legal history the old tables stand, the new ones stand for it
pub record Keeps (old new : HubTables) : Type 0 where
  pub still : (c : HubConfig) (H : List Entry) → Stands c old H → legal c H ≡ true → Stands c new H

-- the table of sessions notes when the one that was used least of late was used, if it has to look at them
abbrev pub NotesUses : HubTables → HubTables → ℕ → HubConfig → Type 0
NotesUses old new now c = new.sessions.quiet_since.0 ≡ of_session.noted_use old.sessions now c.idle_ms

-- the table of nodes notes since when all were heard, and whether one drains, if it has to look at them
abbrev pub NotesSigns : HubTables → HubTables → ℕ → HubConfig → Type 0
NotesSigns old new now c = of_node.NotesQuiet old.nodes new.nodes now c.lapse_ms c.down_ms

-- for whatever history the old tables stand, the new ones stand for it with this change after it, where that is legal
pub record Notes (old new : HubTables) (caller : ℕ) (change : Change) : Type 0 where
  pub after : (c : HubConfig) (H : List Entry) → Stands c old H → legal c (entry caller change ∷ H) ≡ true →
      Stands c new (entry caller change ∷ H)

-- the same for the histories of which what the call was given holds
pub record NotesGiven (given : List Entry → Type 0) (old new : HubTables) (caller : ℕ) (change : Change) : Type 0 where
  pub after : (c : HubConfig) (H : List Entry) → given H → Stands c old H → legal c (entry caller change ∷ H) ≡ true →
      Stands c new (entry caller change ∷ H)

-- nothing is kept of the node: no table has a row of it
pub record HasNoRow (tables : HubTables) (n : ℕ) : Type 0 where
  pub no_node : of_node.knows tables.nodes n ≡ false
  pub no_slots : of_slot.row tables.slots n ≡ None

-- where the node is not listed, nothing is kept of it
abbrev pub Forgets : HubTables → ℕ → Type 0
Forgets tables n = Tells tables (λ H. is_listed H n ≡ false → HasNoRow tables n)

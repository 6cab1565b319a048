-- The tables of nodes and of requests.
use Rattle.std.specs.Prelude.{ℕ, ◌-◌, nat_eq, List, [], ◌∷◌, ◌++◌, codes, decimal, if◌then◌else◌}
use Rattle.text_sheet.specs.Numbers.{seconds}
use Rattle.grid_log.specs.declared.rows.NodeRow.{NodeRow}
use Rattle.grid_log.specs.declared.rows.WaitRow.{WaitRow}
use Rattle.grid_farm.specs.declared.rows.SlotUse.{SlotUse}
use Rattle.grid_farm.specs.declared.rows.SlotUse.TheVariants as slot_use
use Rattle.grid_farm.specs.declared.rows.UseRow.{UseRow}
use Rattle.grid_farm.specs.Farms.{Farm}
use Rattle.grid_farm.specs.Gauges.{free_on, is_draining, is_suspect}
use Rattle.grid_farm.specs.Uses.{is_held}
use Rattle.grid_page.specs.declared.parts.TheConstants.{CELL, CLASS_CELL, CLASS_END, NODE_TABLE, REQUEST_TABLE, ROW, ROW_END, ROW_SECONDS, SLOT, SLOT_END, TABLE_END}
use Rattle.grid_page.specs.Escapes.{with_escaped}

-- what a slot is used for, and what a node is like
abbrev pub use_word : SlotUse → List ℕ
use_word (slot_use.Starting request) = codes "starting"
use_word slot_use.Busy = codes "busy"
use_word slot_use.Closing = codes "closing"

abbrev pub state_word : Farm → NodeRow → List ℕ
state_word farm row =
    if is_draining farm row
    then codes "draining"
    else if is_suspect farm row then codes "suspect" else codes "up"

-- a slot in use
abbrev pub with_use : List ℕ → UseRow → List ℕ
with_use bytes row =
    bytes ++ SLOT.now ++ use_word row.state ++ CLASS_END.now ++ decimal row.slot.index
    ++ SLOT_END.now

-- the slots in use on a node
abbrev pub with_uses : List ℕ → ℕ → List UseRow → List ℕ
with_uses bytes node [] = bytes
with_uses bytes node (row ∷ rows) =
    with_uses (if nat_eq row.slot.node node then with_use bytes row else bytes) node rows

-- a node's number, its name and its state
abbrev pub with_node_front : List ℕ → Farm → NodeRow → List ℕ
with_node_front bytes farm row =
    with_escaped (bytes ++ ROW.now ++ decimal row.node ++ CELL.now) row.name
    ++ CLASS_CELL.now ++ state_word farm row ++ CLASS_END.now ++ state_word farm row ++ CELL.now

-- a node
abbrev pub with_node : List ℕ → Farm → NodeRow → List ℕ
with_node bytes farm row =
    with_uses (with_node_front bytes farm row) row.node farm.uses
    ++ CELL.now ++ decimal (free_on farm.uses row) ++ ROW_END.now

abbrev pub with_nodes : List ℕ → Farm → List NodeRow → List ℕ
with_nodes bytes farm [] = bytes
with_nodes bytes farm (row ∷ rows) = with_nodes (with_node bytes farm row) farm rows

-- the table of nodes
abbrev pub with_node_table : List ℕ → Farm → List ℕ
with_node_table bytes farm =
    with_nodes (bytes ++ NODE_TABLE.now) farm farm.past.nodes ++ TABLE_END.now

-- a request that waits, and how long it has waited at this moment
abbrev pub with_wait : List ℕ → ℕ → WaitRow → List ℕ
with_wait bytes at row =
    bytes ++ ROW.now ++ decimal row.request ++ CELL.now ++ seconds (at - row.at.0)
    ++ ROW_SECONDS.now

-- those of these requests that wait
abbrev pub with_waits : List ℕ → Farm → List WaitRow → List ℕ
with_waits bytes farm [] = bytes
with_waits bytes farm (row ∷ rows) =
    with_waits (if is_held farm.uses row.request then bytes else with_wait bytes farm.at row) farm
    rows

-- the table of requests
abbrev pub with_wait_table : List ℕ → Farm → List ℕ
with_wait_table bytes farm =
    with_waits (bytes ++ REQUEST_TABLE.now) farm farm.past.unsettled ++ TABLE_END.now

-- How many nodes, slots and requests there are of each state.
use Rattle.std.specs.Prelude.{ℕ, ◌-◌, Bool, not, ◌&&◌, nat_eq, List, [], ◌∷◌, length, filter}
use Rattle.grid_types.specs.Lists.{has}
use Rattle.grid_log.specs.declared.rows.NodeRow.{NodeRow}
use Rattle.grid_farm.specs.declared.gauges.NodeStates.{NodeStates}
use Rattle.grid_farm.specs.declared.gauges.SlotStates.{SlotStates}
use Rattle.grid_farm.specs.declared.rows.SlotUse.{SlotUse}
use Rattle.grid_farm.specs.declared.rows.UseRow.{UseRow}
use Rattle.grid_farm.specs.Counts.{plus}
use Rattle.grid_farm.specs.Farms.{Farm}
use Rattle.grid_farm.specs.Uses.{is_busy, is_closing, is_starting, waiting_in}

-- how many slots in use are used so, and how many are on the node
abbrev pub used_so : (SlotUse → Bool) → List UseRow → ℕ
used_so test rows = length (filter (λ row. test row.state) rows)

abbrev pub used_on : ℕ → List UseRow → ℕ
used_on node rows = length (filter (λ row. nat_eq row.slot.node node) rows)

-- how many slots of the node are free
abbrev pub free_on : List UseRow → NodeRow → ℕ
free_on uses row = row.slots - used_on row.node uses

-- so many slots, and those of the nodes that are free
abbrev pub with_free : List UseRow → ℕ → List NodeRow → ℕ
with_free uses count [] = count
with_free uses count (row ∷ rows) = with_free uses (plus count (free_on uses row)) rows

abbrev pub slots_in_states : Farm → SlotStates
slots_in_states farm = record {
  free = with_free farm.uses 0 farm.past.nodes;
  starting = used_so is_starting farm.uses;
  busy = used_so is_busy farm.uses;
  closing = used_so is_closing farm.uses;
}

-- it is draining; it is suspect, and not draining; it is neither
abbrev pub is_draining : Farm → NodeRow → Bool
is_draining farm row = has row.node farm.draining

abbrev pub is_suspect : Farm → NodeRow → Bool
is_suspect farm row = not (is_draining farm row) && has row.node farm.past.suspects

abbrev pub is_up : Farm → NodeRow → Bool
is_up farm row = not (is_draining farm row) && not (has row.node farm.past.suspects)

-- how many of the registered nodes are so
abbrev pub up_count : Farm → ℕ
up_count farm = length (filter (is_up farm) farm.past.nodes)

abbrev pub suspect_count : Farm → ℕ
suspect_count farm = length (filter (is_suspect farm) farm.past.nodes)

abbrev pub draining_count : Farm → ℕ
draining_count farm = length (filter (is_draining farm) farm.past.nodes)

abbrev pub nodes_in_states : Farm → NodeStates
nodes_in_states farm = record {
  up = up_count farm;
  suspect = suspect_count farm;
  draining = draining_count farm;
}

-- how many requests wait
abbrev pub waiting_count : Farm → ℕ
waiting_count farm = length (waiting_in farm.uses farm.past.unsettled)

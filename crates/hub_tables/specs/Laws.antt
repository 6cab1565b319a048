-- What the laws of the crates below tell of each change.
use Rattle.grid_types.specs.Tables.{OthersKeep, is_node_change, is_slot_change, is_request_change, is_session_change}
use Rattle.request_laws.specs.Memory.{BelowStays}
use Rattle.node_registry.specs.Table as of_node
use Rattle.reservation.specs.Table as of_slot
use Rattle.session_queue.specs.Table as of_request
use Rattle.session_map.specs.Table as of_session

-- a change that a table does not take leaves it standing, and what is remembered of a search stays
pub record TableLaws : Type 0 where
  pub nodes_keep : OthersKeep of_node.Stands is_node_change
  pub slots_keep : OthersKeep of_slot.Stands is_slot_change
  pub requests_keep : OthersKeep of_request.Stands is_request_change
  pub sessions_keep : OthersKeep of_session.Stands is_session_change
  pub below_stays : BelowStays

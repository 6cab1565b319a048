-- The laws of the crates below by which each answer is proved.
use Rattle.grid_types.specs.HistoryLaws as of_history
use Rattle.request_laws.specs.KindLaws.{KindLaws}
use Rattle.node_registry.specs.Table.{NodesInOrder}
use Rattle.session_queue.specs.RequestLaws.{RequestLaws}
use Rattle.slot_select.specs.Select.{FullIsPassed}
use Rattle.slot_select.specs.Rows.{FoldChooses}

-- those of histories, of kinds of requests, of the tables of nodes and requests, and of the order of slots
pub record WalkLaws : Type 0 where
  pub history : of_history.HistoryLaws
  pub kinds : KindLaws
  pub requests : RequestLaws
  pub nodes-in-order : NodesInOrder
  pub fold-chooses : FoldChooses
  pub kept-full : FullIsPassed

-- the same, closed, so that a search goes through none of these laws unless it is given one
unfoldable pub Known : Type 0
Known = WalkLaws

pub laws : Known → WalkLaws
unfolding Known
laws proved = proved

-- The laws of the crates below by which the table is proved.
use Rattle.grid_types.specs.HistoryLaws as of_history
use Rattle.request_laws.specs.KindLaws.{KindLaws}

-- those of histories, and of kinds of requests
pub record QueueLaws : Type 0 where
  pub history : of_history.HistoryLaws
  pub kinds : KindLaws

-- the same, closed, so that a search goes through none of these laws unless it is given one
unfoldable pub Known : Type 0
Known = QueueLaws

pub laws : Known → QueueLaws
unfolding Known
laws proved = proved

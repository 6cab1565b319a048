use Rattle.grid_types.specs.HistoryLaws as of_history
use Rattle.session_queue.specs.Laws.{Known}
use Rattle.session_queue.proofs.laws.queue_laws.Goals as goal

pub returns : goal.returns
unfolding Known
returns c = record { history = of_history.laws c.history_laws.ensures; kinds = c.kind_laws.ensures }

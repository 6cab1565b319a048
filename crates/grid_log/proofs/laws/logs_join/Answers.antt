use Rattle.grid_log.proofs.JoinLemmas.{log_joins}
use Rattle.grid_log.proofs.laws.logs_join.Goals as goal

pub returns : goal.returns
returns c = log_joins

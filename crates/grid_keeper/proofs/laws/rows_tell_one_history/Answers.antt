use Rattle.grid_keeper.proofs.ReplayLemmas.{images_agree}
use Rattle.grid_keeper.proofs.laws.rows_tell_one_history.Goals as goal

pub returns : goal.returns
returns c = images_agree c.history_laws.ensures c.calls_stay_legal.ensures c.one_row_spelling.ensures

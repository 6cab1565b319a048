use Rattle.conn_script.proofs.PauseLemmas.{behind_early_calls}
use Rattle.conn_script.proofs.laws.scripts_pause_behind_early_calls.Goals as goal

pub returns : goal.returns
returns c = behind_early_calls c.starts_spend_all.ensures

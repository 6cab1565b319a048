use Rattle.hub_conn.proofs.SpentLemmas.{finished}
use Rattle.hub_conn.proofs.laws.conversations_find_spent_last.Goals as goal

pub returns : goal.returns
returns c = finished c.scripts_find_spent_last.ensures

use Rattle.hub_cell.proofs.LackLemmas.{lacks-alone}
use Rattle.hub_cell.proofs.hub.weighing.lacks_change_nothing.Goals as goal

pub returns : goal.returns
returns c = lacks-alone c.history_laws.ensures

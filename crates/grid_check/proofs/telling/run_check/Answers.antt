use Rattle.grid_check.specs.Running.{CheckEnds}
use Rattle.grid_check.proofs.telling.run_check.Goals as goal

pub returns-in-Ok : goal.returns-in-Ok
returns-in-Ok g c = CheckEnds.verdict_found c.in-Ok.verdict c.in-Ok.ensures.says c.in-Ok.ensures.end c.tell.ensures

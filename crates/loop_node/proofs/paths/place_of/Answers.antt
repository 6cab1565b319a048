use Rattle.loop_node.proofs.PathLemmas.{path_known, path_other}
use Rattle.loop_node.proofs.paths.place_of.Goals as goal

pub returns-in-Ok : goal.returns-in-Ok
returns-in-Ok c = path_known _ _ _ c.up_to-path.ensures c.in-Ok.ensures.cases.1 c.place_of_text.ensures

pub returns-in-Err : goal.returns-in-Err
returns-in-Err c = path_other _ _ c.up_to-path.ensures c.in-Err.ensures.cases.0

use Rattle.grid_teams_run.proofs.LawLemmas.{same_for_team}
use Rattle.grid_teams_run.proofs.laws.blocks_are_apart.Goals as goal

pub returns : goal.returns
returns c = λ said t first last alone blocks outs others all own.
    same_for_team c.one_head.ensures.one c.teams_are_apart.ensures.apart said t first last alone blocks outs others all own

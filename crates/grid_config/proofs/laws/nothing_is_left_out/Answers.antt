use Rattle.grid_config.proofs.ReadingLemmas.{taken_in}
use Rattle.grid_config.proofs.laws.nothing_is_left_out.Goals as goal

pub returns : goal.returns
returns c = λ rows document section key d h e. taken_in rows document section key d h e

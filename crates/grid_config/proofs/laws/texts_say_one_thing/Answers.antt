use Rattle.grid_config.proofs.ReadingLemmas.{one_reading}
use Rattle.grid_config.proofs.laws.texts_say_one_thing.Goals as goal

pub returns : goal.returns
returns c = λ rows text r s p q h k. one_reading rows text r s p q h k

use Rattle.grid_farm.proofs.OrderLemmas.{farm_ascends}
use Rattle.grid_farm.proofs.laws.slots_stand_in_order.Goals as goal

pub returns : goal.returns
returns c = farm_ascends

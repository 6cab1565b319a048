use Rattle.block_frames.proofs.OneWayLemmas.{one_way}
use Rattle.block_frames.proofs.laws.blocks_are_read_one_way.Goals as goal

pub returns : goal.returns
returns c = one_way

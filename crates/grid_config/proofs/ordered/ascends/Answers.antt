use Rattle.grid_config.proofs.OrderLemmas.{entries_ascend}
use Rattle.grid_config.proofs.ordered.ascends.Goals as goal

pub returns : goal.returns
returns c = entries_ascend c.args.table.now.entries c.len-count.ensures.ordered

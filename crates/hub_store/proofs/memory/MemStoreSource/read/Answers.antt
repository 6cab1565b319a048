use Rattle.std.proofs.lemmas.Grind.{common_steps}
use Rattle.std.proofs.Common.{arith}
use Rattle.std.proofs.Math.Seq.{take-add}
use Rattle.hub_store.proofs.memory.MemStoreSource.read.Goals as goal

pub returns-else-count-eq0-clause-given : goal.returns-else-count-eq0-clause-given
returns-else-count-eq0-clause-given c =
    grind (arith, common_steps, take-add c.args.self.now.at c.copy_front-count.result c.args.self.now.bytes, c.copy_front-count.ensures.front, c.as_bytes-bytes.ensures)

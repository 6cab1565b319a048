use Rattle.std.proofs.Common.{arith}
use Rattle.std.proofs.Math.Seq.{take-add}
use Rattle.std.proofs.lemmas.Grind.{common_steps}
use Rattle.grid_teams_top.proofs.block_link.BlockLinkLink.read.Goals as goal

pub returns-clause-given : goal.returns-clause-given
returns-clause-given c = grind (arith, common_steps, take-add c.args.self.now.at c.copy_front-count.result c.args.self.now.bytes.now, c.copy_front-count.ensures.front, c.behind-rest.ensures)

use Rattle.std.proofs.Common.{rules}
use Rattle.turn_cell.specs.Cells.{origin_of}
use Rattle.turn_cell.proofs.cell.TurnCell.enter_with.Goals as goal

pub returns-clause-begun : goal.returns-clause-begun
returns-clause-begun g c = (c.take-value.ensures.finds.2 (origin_of c.args.self.now) (search rules)).1

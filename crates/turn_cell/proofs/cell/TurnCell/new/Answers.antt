use Rattle.std.proofs.Common.{[], refl, arith}
use Rattle.turn_cell.proofs.cell.TurnCell.new.Goals as goal

pub resume-requires : goal.resume-requires
resume-requires g c = ([], c.requires, record { low = omega arith; own = refl; later = λ n h. refl })

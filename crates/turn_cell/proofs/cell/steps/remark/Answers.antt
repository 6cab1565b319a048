use Rattle.std.proofs.Common.{rules}
use Rattle.turn_cell.proofs.Keeps.{remarks}
use Rattle.turn_cell.proofs.cell.steps.remark.Goals as goal

pub load-requires : goal.load-requires
load-requires g c = (search rules, search rules, remarks g.V.Stands.stands g.V.Stands.mark _ _ g.L.Noted.look _ _ _ c.requires.idle)

use Rattle.turn_cell.specs.Cells.{view_of, origin_of}
use Rattle.hub_cell.specs.Shared.{past, made_by}
use Rattle.hub_cell.proofs.hub.SharedHub.announce_alone.Given as goal

abbrev pub ghosts-announce_there : goal.ghosts-announce_there
ghosts-announce_there g a = record { entries = made_by (origin_of a.cell.now).core.value.config (past (view_of a.pass.now)) (view_of a.pass.now).number (g.Q.Announces.call a.question) (g.Q.Announces.at a.question) }

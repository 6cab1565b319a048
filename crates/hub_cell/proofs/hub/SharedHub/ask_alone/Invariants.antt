use Rattle.turn_cell.specs.Cells.{view_of, origin_of}
use Rattle.hub_cell.specs.Shared.{past, made_by}
use Rattle.hub_cell.proofs.hub.SharedHub.ask_alone.Given as goal

abbrev pub ghosts-ask_there : goal.ghosts-ask_there
ghosts-ask_there g a = record { entries = made_by (origin_of a.cell.now).core.value.config (past (view_of a.pass.now)) (view_of a.pass.now).number (g.Q.Asks.call a.question) (g.Q.Asks.at a.question) }

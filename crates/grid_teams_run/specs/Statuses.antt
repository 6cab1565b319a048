-- The statuses of a run.
use Rattle.std.specs.Prelude.{ℕ}
use Rattle.grid_teams_run.specs.declared.run_end.RunEnd.{RunEnd}
use Rattle.grid_teams_run.specs.declared.run_end.RunEnd.TheVariants as ends

abbrev pub status_of : RunEnd → ℕ
status_of ends.Between = 0
status_of ends.Read = 3
status_of ends.Write = 4
status_of ends.Memory = 5
status_of ends.AtLimit = 6
status_of ends.Inside = 10
status_of ends.TooLong = 11

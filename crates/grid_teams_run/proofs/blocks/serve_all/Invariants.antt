use Rattle.std.proofs.Common.{◌≤◌, List}
use Rattle.team_words.specs.declared.team_play.TeamPlay.{TeamPlay}
use Rattle.grid_teams_top.specs.Blocks.{AllPlay, standings}
use Rattle.grid_teams_run.specs.Running.{run_of}
use Rattle.grid_teams_run.specs.Steps.{SoFar}
use Rattle.grid_teams_run.proofs.blocks.serve_all.Given as goal

abbrev pub invariant-each : goal.invariant-each
invariant-each g l = record {
  so_far : (said : List TeamPlay) → AllPlay said l.fn.teams → SoFar said (standings l.fn.teams) l.left l.teams
      (run_of (g.S.Source.view l.fn.input) (g.K.Sink.view l.fn.output).taken (g.K.Sink.view l.fn.output).faults)
      (run_of (g.S.Source.view l.input) (g.K.Sink.view l.output).taken (g.K.Sink.view l.output).faults);
  input_later : (g.S.Source.view l.fn.input).faults ≤ (g.S.Source.view l.input).faults;
  output_later : (g.K.Sink.view l.fn.output).faults ≤ (g.K.Sink.view l.output).faults;
}

abbrev pub decreases-each : goal.decreases-each
decreases-each g l = l.left

use Rattle.std.proofs.Common.{◌≡◌}
use Rattle.journal_reader.specs.Readings.{left_of}
use Rattle.grid_log.specs.Logs.{Output, Start, input_of, output_of}
use Rattle.grid_log.specs.Logging.{HasLogged}
use Rattle.grid_log.proofs.log.Logging.run.Given as goal

-- what was logged at the start has been logged since, and more
abbrev pub invariant-entries : goal.invariant-entries
invariant-entries g l = record {
  logged : (old : Start) (before : Output) →
      HasLogged old (input_of (g.S.Source.view l.fn.input).given (g.S.Source.view l.fn.input).ends (g.S.Source.view l.fn.input).faults)
      before (output_of (g.K.Sink.view l.fn.output).taken (g.K.Sink.view l.fn.output).faults) l.fn.self →
      HasLogged old (input_of (g.S.Source.view l.input).given (g.S.Source.view l.input).ends (g.S.Source.view l.input).faults)
      before (output_of (g.K.Sink.view l.output).taken (g.K.Sink.view l.output).faults) l.self;
  teller : l.self.teller ≡ l.fn.self.teller;
}

abbrev pub decreases-entries : goal.decreases-entries
decreases-entries g l = left_of l.self.reader.feed

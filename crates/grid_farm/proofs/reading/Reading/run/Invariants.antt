use Rattle.journal_reader.specs.Readings.{left_of}
use Rattle.grid_log.specs.Logs.{Input, input_of}
use Rattle.grid_farm.specs.Reads.{ReadSoFar}
use Rattle.grid_farm.proofs.reading.Reading.run.Given as goal

-- what was read at the start has been read since, and more
abbrev pub invariant-entries : goal.invariant-entries
invariant-entries g l =
    (old : Input) →
    ReadSoFar old (input_of (g.S.Source.view l.fn.input).given (g.S.Source.view l.fn.input).ends (g.S.Source.view l.fn.input).faults) l.fn.self →
    ReadSoFar old (input_of (g.S.Source.view l.input).given (g.S.Source.view l.input).ends (g.S.Source.view l.input).faults) l.self

abbrev pub decreases-entries : goal.decreases-entries
decreases-entries g l = left_of l.self.reader.feed

use Rattle.std.proofs.Common.{refl}
use Rattle.grid_log.specs.Logs.{Input, input_of}
use Rattle.grid_farm.proofs.ReadLemmas.{next_read, read_stopped}
use Rattle.grid_farm.proofs.reading.Reading.step.Goals as goal

pub returns-in-Ok-clause-goes : goal.returns-in-Ok-clause-goes
returns-in-Ok-clause-goes g c = λ old s.
    let now : Input = input_of (g.S.Source.view c.next.new.input).given (g.S.Source.view c.next.new.input).ends (g.S.Source.view c.next.new.input).faults in
    c.follow.ensures.goes old now
    (next_read old _ now c.args.self.now _ c.in-Ok.next s c.in-Ok.ensures.goes refl c.in-Ok.ensures.faults)

pub returns-in-Err-clause-goes : goal.returns-in-Err-clause-goes
returns-in-Err-clause-goes g c = λ old s.
    let now : Input = input_of (g.S.Source.view c.next.new.input).given (g.S.Source.view c.next.new.input).ends (g.S.Source.view c.next.new.input).faults in
    read_stopped old _ now c.args.self.now c.in-Err.fault s (λ e. c.in-Err.ensures.cause (cc))

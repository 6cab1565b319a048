use Rattle.grid_log.specs.Logs.{Input, input_of}
use Rattle.grid_log.proofs.log.log_behind.Goals as goal

pub returns-in-Ok-clause-waits : goal.returns-in-Ok-clause-waits
returns-in-Ok-clause-waits g c =
    let old : Input = input_of (g.S.Source.view c.args.input.now).given (g.S.Source.view c.args.input.now).ends (g.S.Source.view c.args.input.now).faults in
    c.log_opened.ensures.waits old (record { opens = c.in-Ok.ensures.opens; read_faults = c.in-Ok.ensures.faults })

pub returns-in-Ok-clause-log : goal.returns-in-Ok-clause-log
returns-in-Ok-clause-log g c =
    let old : Input = input_of (g.S.Source.view c.args.input.now).given (g.S.Source.view c.args.input.now).ends (g.S.Source.view c.args.input.now).faults in
    c.log_opened.ensures.log old (record { opens = c.in-Ok.ensures.opens; read_faults = c.in-Ok.ensures.faults })

use Rattle.grid_log.specs.Logs.{Input, input_of}
use Rattle.grid_farm.proofs.ReadLemmas.{open_stopped}
use Rattle.grid_farm.proofs.reading.read_farm.Goals as goal

pub returns-in-Ok : goal.returns-in-Ok
returns-in-Ok g c =
    let old : Input = input_of (g.S.Source.view c.args.input.now).given (g.S.Source.view c.args.input.now).ends (g.S.Source.view c.args.input.now).faults in
    c.read_opened.ensures old (record { opens = c.in-Ok.ensures.opens; read_faults = c.in-Ok.ensures.faults })

pub returns-in-Err : goal.returns-in-Err
returns-in-Err g c =
    let old : Input = input_of (g.S.Source.view c.args.input.now).given (g.S.Source.view c.args.input.now).ends (g.S.Source.view c.args.input.now).faults in
    let now : Input = input_of (g.S.Source.view c.open.new.input).given (g.S.Source.view c.open.new.input).ends (g.S.Source.view c.open.new.input).faults in
    open_stopped old now c.in-Err.fault (λ e. c.in-Err.ensures.cause (cc))

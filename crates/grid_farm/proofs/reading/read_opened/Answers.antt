use Rattle.std.proofs.Common.{subst}
use Rattle.journal_reader.specs.declared.reader.Opened.{Opened}
use Rattle.grid_log.specs.Logging.{Begins}
use Rattle.grid_log.specs.Logs.{Input, input_of}
use Rattle.grid_farm.proofs.reading.read_opened.Goals as goal

pub returns-in-Journal : goal.returns-in-Journal
returns-in-Journal g c = λ old b.
    let now : Input = input_of (g.S.Source.view c.args.input.now).given (g.S.Source.view c.args.input.now).ends (g.S.Source.view c.args.input.now).faults in
    c.read_entries.ensures old (subst (λ (o : Opened). Begins old now o) c.in-Journal.is b)

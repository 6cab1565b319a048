use Rattle.std.proofs.Common.{inr, subst}
use Rattle.journal_reader.specs.declared.reader.Opened.{Opened}
use Rattle.grid_log.specs.Logs.{Input, input_of}
use Rattle.grid_log.specs.Logging.{Begins}
use Rattle.grid_log.proofs.log.log_opened.Goals as goal

pub returns-in-Journal-clause-waits : goal.returns-in-Journal-clause-waits
returns-in-Journal-clause-waits g c = λ old begins may.
    let now : Input = input_of (g.S.Source.view c.args.input.now).given (g.S.Source.view c.args.input.now).ends (g.S.Source.view c.args.input.now).faults in
    inr (c.log_journal.ensures.waits old (subst (λ (opened : Opened). Begins old now opened) c.in-Journal.is begins) may)

pub returns-in-Journal-clause-log : goal.returns-in-Journal-clause-log
returns-in-Journal-clause-log g c = λ old begins.
    let now : Input = input_of (g.S.Source.view c.args.input.now).given (g.S.Source.view c.args.input.now).ends (g.S.Source.view c.args.input.now).faults in
    c.log_journal.ensures.log old (subst (λ (opened : Opened). Begins old now opened) c.in-Journal.is begins)

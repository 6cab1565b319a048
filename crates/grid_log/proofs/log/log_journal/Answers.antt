use Rattle.std.proofs.Common.{List, ℕ, refl, subst}
use Rattle.grid_outside.specs.Told.{Gains}
use Rattle.grid_log.specs.Logs.{Input, Output, input_of, output_of, start_at}
use Rattle.grid_log.specs.Recalls.{recalled}
use Rattle.grid_log.specs.Logging.{Stopped}
use Rattle.grid_log.proofs.LogLemmas.{ends_as, first_stopped, first_told, no_end_unlogged}
use Rattle.grid_log.proofs.log.log_journal.Goals as goal

pub returns-in-Err-clause-log : goal.returns-in-Err-clause-log
returns-in-Err-clause-log g c = λ old begins.
    let before : Output = output_of (g.K.Sink.view c.args.output.now).taken (g.K.Sink.view c.args.output.now).faults in
    let after : Output = output_of (g.K.Sink.view c.put.new.output).taken (g.K.Sink.view c.put.new.output).faults in
    ends_as (start_at (recalled c.args.past) old) _ before after c.args.form c.args.form _ _
    (first_stopped c.args.form (start_at (recalled c.args.past) old) _ before after c.args.reader c.in-Err.why begins.opens
    (subst (λ (bytes : List ℕ). Stopped before after bytes c.in-Err.why) c.first_line.ensures c.in-Err.ensures.stopped))
    refl c.unlogged_status.ensures

pub returns-in-Err-clause-waits : goal.returns-in-Err-clause-waits
returns-in-Err-clause-waits g c = λ old begins may. absurd (no_end_unlogged c.in-Err.why _ _ c.unlogged_status.ensures refl may)

pub returns-clause-log : goal.returns-clause-log
returns-clause-log g c = λ old begins.
    let now : Input = input_of (g.S.Source.view c.args.input.now).given (g.S.Source.view c.args.input.now).ends (g.S.Source.view c.args.input.now).faults in
    let before : Output = output_of (g.K.Sink.view c.args.output.now).taken (g.K.Sink.view c.args.output.now).faults in
    let after : Output = output_of (g.K.Sink.view c.put.new.output).taken (g.K.Sink.view c.put.new.output).faults in
    c.follow_on.ensures.goes (start_at (recalled c.args.past) old) before
    (first_told (start_at (recalled c.args.past) old) now before after _ begins.opens begins.read_faults refl
    (subst (λ (bytes : List ℕ). Gains before.taken after.taken bytes) c.first_line.ensures c.in_default.ensures.ok) c.put.ensures.faults)

pub returns-clause-waits : goal.returns-clause-waits
returns-clause-waits g c = λ old begins.
    let now : Input = input_of (g.S.Source.view c.args.input.now).given (g.S.Source.view c.args.input.now).ends (g.S.Source.view c.args.input.now).faults in
    let before : Output = output_of (g.K.Sink.view c.args.output.now).taken (g.K.Sink.view c.args.output.now).faults in
    let after : Output = output_of (g.K.Sink.view c.put.new.output).taken (g.K.Sink.view c.put.new.output).faults in
    c.follow_on.ensures.waits (start_at (recalled c.args.past) old) before
    (first_told (start_at (recalled c.args.past) old) now before after _ begins.opens begins.read_faults refl
    (subst (λ (bytes : List ℕ). Gains before.taken after.taken bytes) c.first_line.ensures c.in_default.ensures.ok) c.put.ensures.faults)

use Rattle.std.proofs.Common.{refl}
use Rattle.grid_log.specs.Logs.{Input, input_of}
use Rattle.grid_log.proofs.LogLemmas.{ends_as, next_read, no_end_fault, read_stopped}
use Rattle.grid_log.proofs.log.Logging.step.Goals as goal

pub returns-in-Ok-clause-goes : goal.returns-in-Ok-clause-goes
returns-in-Ok-clause-goes g c = λ old before h.
    let now : Input = input_of (g.S.Source.view c.next.new.input).given (g.S.Source.view c.next.new.input).ends (g.S.Source.view c.next.new.input).faults in
    c.follow.ensures.goes old now before
    (next_read old _ now before _ c.args.self.now _ c.in-Ok.next h c.in-Ok.ensures.goes c.in-Ok.ensures.stays c.in-Ok.ensures.begun c.in-Ok.ensures.config refl refl c.in-Ok.ensures.faults)

pub returns-in-Ok-clause-stays : goal.returns-in-Ok-clause-stays
returns-in-Ok-clause-stays g c = λ old before status h.
    let now : Input = input_of (g.S.Source.view c.next.new.input).given (g.S.Source.view c.next.new.input).ends (g.S.Source.view c.next.new.input).faults in
    c.follow.ensures.stays old now before status
    (next_read old _ now before _ c.args.self.now _ c.in-Ok.next h c.in-Ok.ensures.goes c.in-Ok.ensures.stays c.in-Ok.ensures.begun c.in-Ok.ensures.config refl refl c.in-Ok.ensures.faults)

pub returns-in-Err-clause-stays : goal.returns-in-Err-clause-stays
returns-in-Err-clause-stays g c = λ old before status h is may. absurd (no_end_fault c.in-Err.fault _ status c.fault_status.ensures is may)

pub returns-in-Err-clause-goes : goal.returns-in-Err-clause-goes
returns-in-Err-clause-goes g c = λ old before h.
    let now : Input = input_of (g.S.Source.view c.next.new.input).given (g.S.Source.view c.next.new.input).ends (g.S.Source.view c.next.new.input).faults in
    ends_as old now before _ c.args.self.now.teller.form c.args.self.now.teller.form _ _
    (read_stopped old _ now before _ c.args.self.now c.in-Err.fault h c.in-Err.ensures.begun (λ e. c.in-Err.ensures.cause (cc))) refl c.fault_status.ensures

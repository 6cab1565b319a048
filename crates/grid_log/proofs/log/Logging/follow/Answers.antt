use Rattle.std.proofs.Common.{refl, ap}
use Rattle.grid_log.specs.declared.telling.Teller.{Teller}
use Rattle.grid_log.proofs.LogLemmas.{ends_as, entry_stopped, entry_told, journal_stays, journal_told, no_end_unlogged}
use Rattle.grid_log.proofs.log.Logging.follow.Goals as goal

pub returns-in-Ok-clause-goes : goal.returns-in-Ok-clause-goes
returns-in-Ok-clause-goes g c = λ old now before has.
    entry_told old now before _ _ c.args.self.now c.tell.new.self c.args.next c.in-Entry.entry has c.in-Entry.is c.in-Ok.ensures.past c.in-Ok.ensures.ok c.in-Ok.ensures.faults
    c.in-Ok.ensures.reader c.in-Ok.ensures.teller

pub returns-in-Entry-clause-goes : goal.returns-in-Entry-clause-goes
returns-in-Entry-clause-goes g c = λ old now before has.
    ends_as old now before _ c.args.self.now.teller.form c.tell.new.self.teller.form _ _
    (entry_stopped old now before _ _ c.args.self.now c.args.next c.in-Entry.entry c.in-Err.why has c.in-Entry.is c.in-Err.ensures.stopped)
    (ap (λ (t : Teller). t.form) c.in-Err.ensures.teller) c.unlogged_status.ensures

pub returns-in-Entry-clause-stays : goal.returns-in-Entry-clause-stays
returns-in-Entry-clause-stays g c = λ old now before status has is may. absurd (no_end_unlogged c.in-Err.why _ status c.unlogged_status.ensures is may)

pub returns-clause-stays : goal.returns-clause-stays
returns-clause-stays g c = λ old now before status has is may. journal_stays old now before _ c.args.self.now c.args.next c.in-Ends.ending has c.in-Ends.is

pub returns-clause-goes : goal.returns-clause-goes
returns-clause-goes g c = λ old now before has.
    ends_as old now before _ c.args.self.now.teller.form c.args.self.now.teller.form _ _
    (journal_told old now before _ c.args.self.now c.args.next c.in-Ends.ending has c.in-Ends.is) refl c.ending_status.ensures

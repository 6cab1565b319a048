use Rattle.std.proofs.Common.{refl}
use Rattle.grid_farm.proofs.ReadLemmas.{entry_noted, journal_read}
use Rattle.grid_farm.proofs.reading.Reading.follow.Goals as goal

pub returns-in-Ok-clause-goes : goal.returns-in-Ok-clause-goes
returns-in-Ok-clause-goes c = λ old now has.
    entry_noted old now c.args.self.now _ c.args.next c.in-Entry.entry has c.in-Entry.is c.in-Ok.ensures refl

pub returns-clause-goes : goal.returns-clause-goes
returns-clause-goes c = λ old now has. journal_read old now c.args.self.now c.args.next c.in-Ends.ending has c.in-Ends.is

use Rattle.std.proofs.Common.{refl}
use Rattle.journal_reader.proofs.ReadLemmas.{goes_by_entry}
use Rattle.journal_reader.proofs.reader.JournalReader.take.Goals as goal

pub returns-clause-goes : goal.returns-clause-goes
returns-clause-goes c = λ start now H r.
    goes_by_entry start now c.args.self.now _ c.args.entry c.args.len H r c.requires refl c.take_off.ensures.waiting c.take_off.ensures.taken c.take_off.ensures.ended

use Rattle.std.proofs.Common.{refl}
use Rattle.journal_reader.proofs.ReadLemmas.{goes_by_bytes}
use Rattle.journal_reader.proofs.reader.JournalReader.read_on.Goals as goal

pub returns-clause-goes : goal.returns-clause-goes
returns-clause-goes g c = λ start H r.
    goes_by_bytes start _ _ c.args.self.now _ H r refl c.in_ok-refill.ensures.reads c.in_ok-refill.ensures.end c.in_ok-refill.ensures.ends

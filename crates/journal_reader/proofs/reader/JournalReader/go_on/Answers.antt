use Rattle.std.proofs.Common.{refl}
use Rattle.journal_reader.proofs.ReadLemmas.{read_since, stays_open}
use Rattle.journal_reader.proofs.reader.JournalReader.go_on.Goals as goal

pub returns-clause-read : goal.returns-clause-read
returns-clause-read c = λ start now H r.
    stays_open start now c.args.self.now _ H r refl c.go_on.ensures.waiting c.go_on.ensures.taken c.go_on.ensures.open

pub returns-clause-again : goal.returns-clause-again
returns-clause-again c = λ start now H r.
    read_since start now _ H (stays_open start now c.args.self.now _ H r refl c.go_on.ensures.waiting c.go_on.ensures.taken c.go_on.ensures.open) c.go_on.ensures.open

use Rattle.journal_reader.proofs.reader.JournalReader.follow.Goals as goal

pub returns-in-Whole-clause-stays : goal.returns-in-Whole-clause-stays
returns-in-Whole-clause-stays g c = λ start H r. c.take.ensures.stays start _ H

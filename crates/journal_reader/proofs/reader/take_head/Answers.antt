use Rattle.std.proofs.Common.{List, ℕ, subst, arith}
use Rattle.grid_journal.specs.declared.head.HeadStep.TheVariants as head_step
use Rattle.grid_journal.specs.HeadReads.{HeadRead}
use Rattle.journal_reader.specs.Feeds.{waiting}
use Rattle.journal_reader.proofs.ReadLemmas.{cut_head_short}
use Rattle.journal_reader.proofs.reader.take_head.Goals as goal

pub returns-in-NotJournal-clause-heads : goal.returns-in-NotJournal-clause-heads
returns-in-NotJournal-clause-heads g c = record {
  bytes = waiting c.pieces.feed;
  gains = c.pieces.invariant.gains;
  none_begins = subst (λ (b : List ℕ). HeadRead b head_step.NotJournal) c.waiting.ensures c.in-NotJournal.ensures;
}

pub refill-requires-clause-room : goal.refill-requires-clause-room
refill-requires-clause-room g c =
    omega (arith, c.pieces.invariant.taken, cut_head_short (waiting c.pieces.feed) (subst (λ (b : List ℕ). HeadRead b head_step.More) c.waiting.ensures c.in-More.ensures))

use Rattle.std.proofs.Common.{ℕ, List, subst, arith}
use Rattle.grid_journal.specs.declared.head.HeadStep.TheVariants as head_step
use Rattle.grid_journal.specs.HeadReads.{HeadRead}
use Rattle.journal_verdicts.specs.Feeds.{waiting}
use Rattle.journal_verdicts.proofs.CheckLemmas.{cut_head_short}
use Rattle.journal_verdicts.proofs.checking.open.Goals as goal

pub returns-in-NotJournal-clause-opens : goal.returns-in-NotJournal-clause-opens
returns-in-NotJournal-clause-opens g c = (
  record {
    bytes = waiting c.pieces.feed;
    gains = c.pieces.invariant.gains;
    says = subst (λ (b : List ℕ). HeadRead b head_step.NotJournal) c.waiting.ensures c.in-NotJournal.ensures;
    end_told = λ h. absurd (cc);
  },
  tt,
)

pub refill-requires-clause-room : goal.refill-requires-clause-room
refill-requires-clause-room g c =
    omega (arith, c.pieces.invariant.taken, cut_head_short (waiting c.pieces.feed) (subst (λ (b : List ℕ). HeadRead b head_step.More) c.waiting.ensures c.in-More.ensures))

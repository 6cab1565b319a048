use Rattle.std.proofs.Common.{refl}
use Rattle.grid_ledger.proofs.NoteLemmas.{given, noted, noted-kept}
use Rattle.grid_ledger.proofs.ledger.GridLedger.note_failed.Goals as goal

pub returns : goal.returns
returns c = noted-kept _ _ _ _ _ (noted _ _ _ _ refl
    (record {
      nodes = given (c.others_keep.ensures.nodes _ _ _ refl);
      slots = given (rw c.copied-2.ensures at c.failed-2.ensures);
      requests = given (rw c.copied.ensures at c.failed.ensures _);
      sessions = given (c.others_keep.ensures.sessions _ _ _ refl);
    })
    (record { nodes = λ H e l. e; requests = λ H e l. e; clock = c.raised-self.ensures })) c.forget_unlisted.ensures

use Rattle.std.proofs.Common.{refl}
use Rattle.grid_ledger.proofs.NoteLemmas.{given, noted, noted-kept}
use Rattle.grid_ledger.proofs.ledger.GridLedger.note_removed.Goals as goal

pub returns : goal.returns
returns c = λ k. noted-kept _ _ _ k _ (noted _ _ k _ refl
    (record {
      nodes = given (c.removed.ensures k);
      slots = given (c.others_keep.ensures.slots _ k _ refl);
      requests = given (c.others_keep.ensures.requests _ k _ refl);
      sessions = given (c.others_keep.ensures.sessions _ k _ refl);
    })
    (record { nodes = λ H e l. e; requests = λ H e l. e; clock = c.raised-self.ensures })) c.forget_unlisted.ensures

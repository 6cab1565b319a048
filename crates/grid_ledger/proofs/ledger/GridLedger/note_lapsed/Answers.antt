use Rattle.std.proofs.Common.{refl}
use Rattle.grid_ledger.proofs.NoteLemmas.{given, noted, noted-kept}
use Rattle.grid_ledger.proofs.ledger.GridLedger.note_lapsed.Goals as goal

pub returns : goal.returns
returns c = λ k. noted-kept _ _ _ k _ (noted _ _ k _ refl
    (record {
      nodes = given (c.lapsed.ensures k);
      slots = given (c.lapsed-2.ensures k);
      requests = given (c.others_keep.ensures.requests _ k _ refl);
      sessions = given (c.lapsed-3.ensures k);
    })
    (record { nodes = λ H e l. e; requests = λ H e l. e; clock = c.raised-self.ensures })) c.forget_unlisted.ensures

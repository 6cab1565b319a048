use Rattle.std.proofs.Common.{refl}
use Rattle.grid_ledger.proofs.NoteLemmas.{given, noted, noted-kept, no-sooner}
use Rattle.grid_ledger.proofs.ledger.GridLedger.note_freed.Goals as goal

pub returns : goal.returns
returns c = λ k. noted-kept _ _ _ k _ (noted _ _ k _ refl
    (record {
      nodes = given (c.others_keep.ensures.nodes _ k _ refl);
      slots = given (c.freed.ensures k);
      requests = given (c.others_keep.ensures.requests _ k _ refl);
      sessions = given (c.others_keep.ensures.sessions _ k _ refl);
    })
    (record { nodes = λ H e l. e; requests = λ H e l. e; clock = no-sooner _ })) c.forget_unlisted.ensures

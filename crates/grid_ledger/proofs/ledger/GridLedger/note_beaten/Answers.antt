use Rattle.std.proofs.Common.{refl}
use Rattle.grid_ledger.proofs.NoteLemmas.{given, noted}
use Rattle.grid_ledger.proofs.ledger.GridLedger.note_beaten.Goals as goal

pub returns : goal.returns
returns c = λ k. noted _ _ k _ refl
    (record {
      nodes = given (c.beaten.ensures k);
      slots = given (c.others_keep.ensures.slots _ k _ refl);
      requests = given (c.others_keep.ensures.requests _ k _ refl);
      sessions = given (c.others_keep.ensures.sessions _ k _ refl);
    })
    (record { nodes = λ H e l. e; requests = λ H e l. e; clock = c.raised-self.ensures })

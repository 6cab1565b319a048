use Rattle.std.proofs.Common.{refl}
use Rattle.grid_ledger.proofs.NoteLemmas.{given, noted}
use Rattle.grid_ledger.proofs.ledger.GridLedger.note_touched.Goals as goal

pub returns : goal.returns
returns c = λ k. noted _ _ k _ refl
    (record {
      nodes = given (c.others_keep.ensures.nodes _ k _ refl);
      slots = given (c.others_keep.ensures.slots _ k _ refl);
      requests = given (c.others_keep.ensures.requests _ k _ refl);
      sessions = given (c.touched.ensures k);
    })
    (record { nodes = λ H e l. e; requests = λ H e l. e; clock = c.raised-self.ensures })

use Rattle.std.proofs.Common.{refl}
use Rattle.grid_ledger.proofs.NoteLemmas.{given, noted}
use Rattle.grid_ledger.proofs.ledger.GridLedger.note_reserved.Goals as goal

pub returns : goal.returns
returns c = noted _ _ _ _ refl
    (record {
      nodes = given (c.in_ok-reserved.ensures.stands _);
      slots = given c.in_ok-reserved-3.ensures.stands;
      requests = given (c.in_ok-reserved-2.ensures.stands _);
      sessions = given (c.others_keep.ensures.sessions _ _ _ refl);
    })
    (record { nodes = λ H e l. e; requests = λ H e l. e; clock = c.raised-self.ensures })

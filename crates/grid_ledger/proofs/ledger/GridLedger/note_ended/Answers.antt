use Rattle.std.proofs.Common.{refl}
use Rattle.grid_ledger.proofs.NoteLemmas.{given, noted-given, ended-live}
use Rattle.grid_ledger.proofs.ledger.GridLedger.note_ended.Goals as goal

pub returns : goal.returns
returns c = noted-given _ _ _ _ _ refl
    (λ H s l. c.in_ok-slot.ensures.of H s (ended-live c.args.self.now.config H c.args.caller c.args.binding c.args.cause c.args.at l))
    (record { nodes = given (c.others_keep.ensures.nodes _ _ _ refl); slots = c.ended-2.ensures; requests = given (c.others_keep.ensures.requests _ _ _ refl); sessions = given (c.ended.ensures _) })
    (record { nodes = λ H e l. e; requests = λ H e l. e; clock = c.raised-self.ensures })

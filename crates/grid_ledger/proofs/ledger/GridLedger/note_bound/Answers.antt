use Rattle.std.proofs.Common.{refl}
use Rattle.grid_ledger.proofs.NoteLemmas.{given, noted-given, bound-registered}
use Rattle.grid_ledger.proofs.ledger.GridLedger.note_bound.Goals as goal

pub returns : goal.returns
returns c = noted-given _ _ _ _ _ refl
    (λ H s l. c.in_ok-address.ensures.of H s (bound-registered c.args.self.now.config H c.args.caller c.args.request c.args.slot c.args.session c.args.caps c.args.at l))
    (record { nodes = given (c.bound-3.ensures _); slots = given c.in_ok-bound-2.ensures.stands; requests = c.in_ok-bound-3.ensures.stands _; sessions = c.in_ok-bound.ensures.stands _ })
    (record { nodes = λ H e l. e; requests = λ H e l. e; clock = c.raised-self.ensures })

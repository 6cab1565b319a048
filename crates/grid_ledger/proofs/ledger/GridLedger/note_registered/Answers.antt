use Rattle.std.proofs.Common.{refl, ◌∙◌}
use Rattle.grid_ledger.proofs.NoteLemmas.{given, noted, node-next}
use Rattle.grid_ledger.proofs.ledger.GridLedger.note_registered.Goals as goal

pub returns : goal.returns
returns c = λ k. noted _ _ k _ refl
    (record {
      nodes = given (c.in_ok-registered-2.ensures.stands k);
      slots = given (c.in_ok-registered.ensures.stands k);
      requests = given (c.others_keep.ensures.requests _ k _ refl);
      sessions = given (c.others_keep.ensures.sessions _ k _ refl);
    })
    (record { nodes = λ H e l. c.saturating_add-self.ensures ∙ node-next c.args.self.now.config H k c.args.node c.args.registration.now c.args.at l; requests = λ H e l. e; clock = c.raised-self.ensures })

use Rattle.std.proofs.Common.{refl, ◌∙◌}
use Rattle.grid_ledger.proofs.NoteLemmas.{given, noted-given, request-next, queued-bytes}
use Rattle.grid_ledger.proofs.ledger.GridLedger.note_queued.Goals as goal

pub returns : goal.returns
returns c = noted-given _ _ _ _ _ refl
    (λ H s l. (rw c.items.ensures.items at c.request_bytes-bytes.ensures) ∙ queued-bytes c.args.self.now.config H c.args.caller c.args.request c.args.choices c.args.deadline c.args.at l)
    (record {
      nodes = given (c.others_keep.ensures.nodes _ _ _ refl);
      slots = given (c.others_keep.ensures.slots _ _ _ refl);
      requests = c.in_ok-queued.ensures.stands;
      sessions = given (c.others_keep.ensures.sessions _ _ _ refl);
    })
    (record { nodes = λ H e l. e; requests = λ H e l. c.saturating_add-self.ensures ∙ request-next c.args.self.now.config H c.args.caller c.args.request c.args.choices c.args.deadline c.args.at l; clock = c.raised-self.ensures })

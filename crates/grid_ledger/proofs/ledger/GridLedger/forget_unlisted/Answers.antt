use Rattle.std.proofs.Common.{refl}
use Rattle.grid_ledger.proofs.NoteLemmas.{keeps, unlisted}
use Rattle.grid_ledger.proofs.ledger.GridLedger.forget_unlisted.Goals as goal

pub returns-then-not-has_slot_in_use : goal.returns-then-not-has_slot_in_use
returns-then-not-has_slot_in_use c = keeps _ _ refl refl refl refl refl refl
    (record {
      nodes = λ H s. c.forget.ensures.stands.still c.args.self.now.config H s.nodes_stand s.is_legal
          (unlisted H _ _ _ (c.is_registered.ensures.of c.args.self.now.config H s.nodes_stand s.is_legal) (c.has_slot_in_use.ensures.of c.args.self.now.config H s.slots_stand s.is_legal) c.if-not-is_registered.true c.if-not-has_slot_in_use.true);
      slots = λ H s. c.forget-then-not-has_slot_in_use.ensures.stands.still c.args.self.now.config H s.slots_stand s.is_legal
          (unlisted H _ _ _ (c.is_registered.ensures.of c.args.self.now.config H s.nodes_stand s.is_legal) (c.has_slot_in_use.ensures.of c.args.self.now.config H s.slots_stand s.is_legal) c.if-not-is_registered.true c.if-not-has_slot_in_use.true);
    })

use Rattle.grid_opening.specs.Settling.{Always, Clears, OnNode}
use Rattle.grid_opening.proofs.GoesLemmas.{tells_at, went_none}
use Rattle.grid_opening.proofs.SlotLemmas.{clears_nothing, unused_node}
use Rattle.grid_opening.proofs.opening.Opening.at_slots_of.Goals as goal

pub returns-then-not-has_slot_in_use : goal.returns-then-not-has_slot_in_use
returns-then-not-has_slot_in_use g c =
    let a = c.args in
    went_none g.K.Keeper.kept g.L.Listener.heard g.K.Keeper.faults Always a.at.0 (Clears a.work a.at.0 (OnNode a.node)) a.self.now
    (λ H h t. clears_nothing a.work a.at.0 (OnNode a.node) H (unused_node c.history_laws.ensures a.work a.self.now.ledger.config H a.node c.has_slot_in_use.result h.stands.is_legal
    ((tells_at c.ledger.ensures c.has_slot_in_use.ensures).of H h.stands) c.if-not-has_slot_in_use.true))
